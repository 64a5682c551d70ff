use Rattle.std.proofs.Common.{arith}
use Rattle.table_images.proofs.CellsStand.{cell-function, cells-replicate}
use Rattle.table_images.proofs.Tables.{first-imaged}
use Rattle.table_images.proofs.first.first_image.Goals as goal

pub returns-in-Some : goal.returns-in-Some
returns-in-Some c = grind (arith, cells-replicate, cell-function, first-imaged)
