use Rattle.std.proofs.Common.{◌≡◌, refl}
use Rattle.wasm_spec.specs.Module.{data_counts_of_section}
use Rattle.form_rules.proofs.AllSections.{customs_hold}
use Rattle.form_rules.proofs.counts.data_count_holds.Goals as goal

pub returns-in-Customs : goal.returns-in-Customs
returns-in-Customs c = rw c.in-Customs.is (customs_hold (λ stated. stated ≡ c.args.count) data_counts_of_section (λ name bytes. refl) c.in-Customs.field-0)
