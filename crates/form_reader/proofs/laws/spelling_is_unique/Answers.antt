use Rattle.form_reader.proofs.Outcomes.{spells_or_stops}
use Rattle.form_reader.proofs.SectionLaws.{module_once}
use Rattle.form_reader.proofs.laws.spelling_is_unique.Goals as goal

pub returns-clause-one_module : goal.returns-clause-one_module
returns-clause-one_module c = module_once

pub returns-clause-spelled_or_stopped : goal.returns-clause-spelled_or_stopped
returns-clause-spelled_or_stopped c = spells_or_stops
