use Rattle.std.proofs.Common.{take}
use Rattle.replay_spec.specs.Tables.{image_cells}
use Rattle.table_images.specs.Steps.{OverlaysCells}
use Rattle.table_images.specs.Views.{image_of, items_of}
use Rattle.table_images.proofs.lay.fill.Given as goal

-- the cells so far are written
abbrev pub invariant-cells : goal.invariant-cells
invariant-cells l = OverlaysCells l.place (take l.i (image_cells (items_of l.elements))) (image_of l.fn.image) (image_of l.image)
