use Rattle.std.proofs.Common.{refl, sym}
use Rattle.wasm_spec.specs.Module.{starts_of_section}
use Rattle.form_reader.proofs.CustomRuns.{none_listed}
use Rattle.module_sections.proofs.start.start_in.Goals as goal

pub returns-in-Customs : goal.returns-in-Customs
returns-in-Customs c = rw c.in-Customs.is (sym (none_listed starts_of_section (λ name bytes. refl) c.in-Customs.field-0))
