use Rattle.std.proofs.Common.{arith}
use Rattle.table_images.proofs.Laying.{grown-cells}
use Rattle.table_images.proofs.lay.grow.Goals as goal

pub returns-in_ok-resize : goal.returns-in_ok-resize
returns-in_ok-resize c = grind (arith, grown-cells)
