use Rattle.std.proofs.Common.{arith}
use Rattle.table_images.proofs.CellsStand.{at-functions, at-expressions}
use Rattle.table_images.proofs.cells.cell_at.Goals as goal

pub returns-in-Functions : goal.returns-in-Functions
returns-in-Functions c = at-functions c.args.elements.now c.in-Functions.functions c.in-Functions.is c.args.i c.index.result.now c.requires.within c.requires.functions c.index.ensures

pub returns-in-Expressions : goal.returns-in-Expressions
returns-in-Expressions c = grind (arith, at-expressions)
