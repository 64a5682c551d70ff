use Rattle.std.proofs.Common.{◌↔◌, ◌≤◌, ℕ, List, IsTrue, sum_by, subst}
use Rattle.wasm_spec.specs.declared.types.ValType.{ValType}
use Rattle.form_rules.proofs.counts.body_fits.Goals as goal

pub returns : goal.returns
returns c =
    let P : List (ℕ × ValType) → Type 0 = λ runs. IsTrue c.locals_fit.result ↔ (sum_by (λ (run : ℕ × ValType). run.0) runs ≤ 4294967295) in
    subst P c.deref.ensures.value c.locals_fit.ensures
