use Rattle.module_sections.proofs.Escaped.{escaping-numbered, others-reserved}
use Rattle.module_sections.proofs.ReferencesInRange.{references-in-range}
use Rattle.module_sections.proofs.laws.escaping_numbers_law.Goals as goal

pub returns-clause-numbered : goal.returns-clause-numbered
returns-clause-numbered c = λ debugged m t escapes keeps. escaping-numbered debugged m t escapes (references-in-range m keeps debugged)

pub returns-clause-others : goal.returns-clause-others
returns-clause-others c = others-reserved
