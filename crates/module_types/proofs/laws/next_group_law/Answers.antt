use Rattle.module_types.proofs.DeclaredGroups.{can-intern}
use Rattle.module_types.proofs.laws.next_group_law.Goals as goal

pub returns : goal.returns
returns c = can-intern
