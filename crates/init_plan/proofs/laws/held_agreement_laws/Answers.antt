use Rattle.init_plan.proofs.Holding.{memories_same, data_agree, elements_agree, globals_agree}
use Rattle.init_plan.proofs.laws.held_agreement_laws.Goals as goal

pub returns-clause-memories : goal.returns-clause-memories
returns-clause-memories c = memories_same

pub returns-clause-data : goal.returns-clause-data
returns-clause-data c = λ m t plan holds h. data_agree m t holds plan h

pub returns-clause-elements : goal.returns-clause-elements
returns-clause-elements c = elements_agree

pub returns-clause-globals : goal.returns-clause-globals
returns-clause-globals c = globals_agree
