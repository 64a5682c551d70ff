use Rattle.std.specs.Prelude.{List, All, length, ◌≤◌}
use Rattle.std.proofs.Common.{subst}
use Rattle.wasm_types.specs.declared.value.WasmValType.{WasmValType}
use Rattle.wasm_types.specs.Texts.{val_text}
use Rattle.plan_laws.proofs.TypeTexts.{func-short}
use Rattle.plan_laws.proofs.type_bytes.function.Goals as goal

pub returns : goal.returns
returns c =
    let P : List WasmValType → Type 0 = λ ts. All (λ t. length (val_text t) ≤ 39) ts in
    func-short c.args.ty.now (subst P c.params.ensures.listed c.values.ensures) (subst P c.results.ensures.listed c.values-2.ensures)
