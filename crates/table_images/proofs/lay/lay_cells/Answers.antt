use Rattle.std.proofs.Common.{arith}
use Rattle.std.proofs.lemmas.List.{length-map}
use Rattle.entity_map.proofs.LentLemmas.{refill-same_length}
use Rattle.replay_spec.specs.Tables.{image_cells}
use Rattle.table_images.specs.Views.{cell_of, image_of, items_of}
use Rattle.table_images.proofs.CellsStand.{length-cells}
use Rattle.table_images.proofs.Laying.{lays-grown}
use Rattle.table_images.proofs.lay.lay_cells.Goals as goal

pub returns : goal.returns
returns c =
    let old = c.grow.new.image.items in
    let new = c.fill.new.image in
    let overlaid = rw c.deref_mut.ensures.value at c.fill.ensures in
    let reach = overlaid.reach in
    let back = refill-same_length old new (omega (arith, length-map new cell_of, length-map old cell_of)) in
    rw (c.grow.new.image.ok.0, back)
    (lays-grown c.args.place (image_cells (items_of c.args.elements.now)) (image_of c.args.image.now.items) (image_of old) (image_of new) (grind (arith, length-cells)) overlaid)
