use Rattle.std.proofs.Common.{arith}
use Rattle.std.proofs.lemmas.Grind.{common_steps}
use Rattle.plan_tables.proofs.Taken.{taken_step}
use Rattle.plan_tables.proofs.runtime.take_bytes.Goals as goal

pub loop-place-preserved : goal.loop-place-preserved
loop-place-preserved c = record {
  same_length = grind (arith, common_steps);
  taken = taken_step c.loop-place.rows c.taken_row.result c.loop-place.planned c.taken_row.new.bytes c.index-planned-place.result c.loop-place.place _
      (omega arith) (omega arith) c.taken_row.ensures c.loop-place.invariant.taken;
}
