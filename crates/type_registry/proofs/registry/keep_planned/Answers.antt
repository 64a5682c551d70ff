use Rattle.std.proofs.Common.{arith}
use Rattle.type_registry.proofs.PlanGroups.{counted-both}
use Rattle.type_registry.proofs.registry.keep_planned.Goals as goal

pub count_all-requires : goal.count_all-requires
count_all-requires c = grind (arith, counted-both)
