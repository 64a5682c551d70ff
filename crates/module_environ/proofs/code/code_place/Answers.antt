use Rattle.std.proofs.Common.{refl, sym}
use Rattle.form_reader.proofs.CustomRuns.{none_listed}
use Rattle.module_environ.specs.Translation.{code_places}
use Rattle.module_environ.proofs.code.code_place.Goals as goal

pub returns-in-Customs : goal.returns-in-Customs
returns-in-Customs c = rw c.in-Customs.is (sym (none_listed code_places (λ name bytes. refl) c.in-Customs.field-0))
