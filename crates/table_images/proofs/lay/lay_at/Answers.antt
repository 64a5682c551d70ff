use Rattle.table_images.specs.Views.{items_of}
use Rattle.replay_spec.specs.Tables.{image_cells}
use Rattle.table_images.proofs.Laying.{lays-at}
use Rattle.table_images.proofs.lay.lay_at.Goals as goal

pub returns : goal.returns
returns c = lays-at c.args.spot.place (image_cells (items_of c.args.elements.now)) c.args.images.now c.args.spot.table c.index-images-spot.result c.lay_cells.new.image c.requires.table c.in_ok-lay_cells.ensures
