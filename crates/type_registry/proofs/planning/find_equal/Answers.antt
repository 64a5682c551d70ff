use Rattle.std.proofs.Common.{arith}
use Rattle.type_registry.proofs.PlanGroups.{find-some, find-none}
use Rattle.type_registry.proofs.planning.find_equal.Goals as goal

pub returns-in-Some : goal.returns-in-Some
returns-in-Some c = grind (arith, find-some)

pub returns-in-None : goal.returns-in-None
returns-in-None c = grind (arith, find-none)
