use Rattle.std.proofs.Common.{refl}
use Rattle.wasm_spec.specs.Module.{starts_of_section}
use Rattle.rule_spec.specs.Indices.{CanStart}
use Rattle.form_rules.specs.Views.{lists_of}
use Rattle.form_rules.proofs.AllSections.{customs_hold}
use Rattle.form_rules.proofs.start.section_can_start.Goals as goal

pub returns-in-Customs : goal.returns-in-Customs
returns-in-Customs c = rw c.in-Customs.is (customs_hold (CanStart (lists_of c.args.lists.now)) starts_of_section (λ name bytes. refl) c.in-Customs.field-0)
