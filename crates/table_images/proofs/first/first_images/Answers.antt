use Rattle.std.proofs.Common.{arith}
use Rattle.table_images.proofs.Tables.{holds-at, first-count, first-step}
use Rattle.table_images.proofs.first.first_images.Goals as goal

pub first_image-requires : goal.first_image-requires
first_image-requires c = holds-at c.args.tables.now c.args.values.now c.tables.i c.index-values-i.result c.requires.paired (omega arith) c.index-values-i.is c.requires.functions

pub push-requires : goal.push-requires
push-requires c = grind (arith, first-count)

pub tables-preserved : goal.tables-preserved
tables-preserved c = grind (arith, first-step)
