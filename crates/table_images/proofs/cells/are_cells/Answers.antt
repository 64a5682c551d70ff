use Rattle.table_images.proofs.CellsStand.{are-cells}
use Rattle.table_images.proofs.cells.are_cells.Goals as goal

pub returns-in-Expressions : goal.returns-in-Expressions
returns-in-Expressions c = are-cells c.args.elements.now c.in-Expressions.ty c.in-Expressions.exprs c.deref.result.now c.have_cells.result c.in-Expressions.is c.deref.ensures.value c.have_cells.ensures
