use Rattle.module_sections.specs.Escapes.{references}
use Rattle.module_sections.proofs.FirstCauses.{contains-firsts, firsts-apart, firsts-rise}
use Rattle.module_sections.proofs.laws.escaping_functions_law.Goals as goal

pub returns-clause-caused : goal.returns-clause-caused
returns-clause-caused c = λ debugged l. contains-firsts (references debugged l)

pub returns-clause-once : goal.returns-clause-once
returns-clause-once c = λ debugged l. firsts-apart (references debugged l)

pub returns-clause-in_order : goal.returns-clause-in_order
returns-clause-in_order c = λ debugged l. firsts-rise (references debugged l)
