use Rattle.std.proofs.Common.{slice_get, arith}
use Rattle.type_registry.proofs.Copies.{part-next}
use Rattle.type_registry.proofs.plan.members.Goals as goal

pub loop-index-preserved : goal.loop-index-preserved
loop-index-preserved c = grind (arith, slice_get, part-next)
