use Rattle.std.proofs.Common.{arith}
use Rattle.std.proofs.lemmas.List.{length-map, map-set}
use Rattle.table_images.proofs.CellsStand.{length-cells}
use Rattle.table_images.proofs.Laying.{overlay-more}
use Rattle.table_images.proofs.lay.fill.Goals as goal

pub cells-preserved : goal.cells-preserved
cells-preserved c = grind (arith, length-cells, length-map, map-set, overlay-more)
