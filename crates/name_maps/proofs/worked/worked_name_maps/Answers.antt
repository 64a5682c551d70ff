use Rattle.name_maps.proofs.WorkedMaps.{global, no_other, label, module_behind, section, other_name}
use Rattle.name_maps.proofs.worked.worked_name_maps.Goals as goal

pub returns-clause-global : goal.returns-clause-global
returns-clause-global c = global

pub returns-clause-no_other : goal.returns-clause-no_other
returns-clause-no_other c = no_other

pub returns-clause-label : goal.returns-clause-label
returns-clause-label c = label

pub returns-clause-module_behind_another : goal.returns-clause-module_behind_another
returns-clause-module_behind_another c = module_behind

pub returns-clause-section : goal.returns-clause-section
returns-clause-section c = section

pub returns-clause-other_name : goal.returns-clause-other_name
returns-clause-other_name c = other_name
