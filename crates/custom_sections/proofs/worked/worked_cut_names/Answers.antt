use Rattle.custom_sections.proofs.WorkedNames.{first_told, not_nothing, local_told}
use Rattle.custom_sections.proofs.worked.worked_cut_names.Goals as goal

pub returns-clause-first_name : goal.returns-clause-first_name
returns-clause-first_name c = first_told

pub returns-clause-not_nothing : goal.returns-clause-not_nothing
returns-clause-not_nothing c = not_nothing

pub returns-clause-first_local : goal.returns-clause-first_local
returns-clause-first_local c = local_told
