use Rattle.module_types.proofs.DeclaredGroups.{tied, told}
use Rattle.module_types.proofs.laws.declared_groups_law.Goals as goal

pub returns : goal.returns
returns c = record { taken = tied; told = told }
