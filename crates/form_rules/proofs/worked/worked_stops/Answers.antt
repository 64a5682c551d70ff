use Rattle.wasm_spec.specs.declared.operators.What.TheVariants as what
use Rattle.form_reader.proofs.SectionLaws.{module_stopped}
use Rattle.form_reader.proofs.Outcomes.{spells_or_stops}
use Rattle.rule_spec.specs.WorkedKept.{overlapping, overlap_bytes}
use Rattle.form_rules.specs.Worked.{unlisted_operator_bytes, component_bytes}
use Rattle.form_rules.proofs.OverlapRead.{read-operator, read-component, overlap-spelled}
use Rattle.form_rules.proofs.worked.worked_stops.Goals as goal

pub returns-clause-operator : goal.returns-clause-operator
returns-clause-operator c = module_stopped unlisted_operator_bytes what.Operator read-operator

pub returns-clause-component : goal.returns-clause-component
returns-clause-component c = module_stopped component_bytes what.Component read-component

pub returns-clause-nowhere : goal.returns-clause-nowhere
returns-clause-nowhere c = λ w stops. spells_or_stops overlap_bytes overlapping w overlap-spelled.0 overlap-spelled.1 stops
