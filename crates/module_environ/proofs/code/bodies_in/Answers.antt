use Rattle.std.proofs.Common.{◌∙◌, map, refl, sym, ap}
use Rattle.wasm_spec.specs.Module.{bodies_of_section}
use Rattle.form_reader.specs.Views.{body_of}
use Rattle.form_reader.proofs.CustomRuns.{none_listed}
use Rattle.module_environ.proofs.code.bodies_in.Goals as goal

pub returns-in-Customs : goal.returns-in-Customs
returns-in-Customs c =
    rw c.in-Customs.is (ap (map body_of) c.new-in-Customs.ensures.items ∙ sym (none_listed bodies_of_section (λ name bytes. refl) c.in-Customs.field-0))
