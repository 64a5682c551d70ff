use Rattle.std.proofs.Common.{arith}
use Rattle.std.proofs.Math.ListN.{length-set}
use Rattle.std.proofs.lemmas.Option.{get_or_from_slice_get, slice_get-get_or}
use Rattle.table_images.proofs.Tables.{rest-step, done-step}
use Rattle.table_images.proofs.Standing.{still-step}
use Rattle.table_images.proofs.first.drop_imaged.Goals as goal

pub tables-preserved : goal.tables-preserved
tables-preserved c = grind (arith, length-set, done-step, rest-step, still-step, get_or_from_slice_get, slice_get-get_or)
