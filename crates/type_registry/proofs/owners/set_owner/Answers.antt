use Rattle.std.proofs.Common.{arith}
use Rattle.type_registry.proofs.OwnerLists.{given-set, taken-set}
use Rattle.type_registry.proofs.owners.set_owner.Goals as goal

pub returns-in-Some-clause-free : goal.returns-in-Some-clause-free
returns-in-Some-clause-free c = grind (arith, taken-set)

pub returns-in-None-clause-free : goal.returns-in-None-clause-free
returns-in-None-clause-free c = grind (arith, given-set)
