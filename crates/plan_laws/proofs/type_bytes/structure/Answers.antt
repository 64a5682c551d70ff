use Rattle.std.specs.Prelude.{List, All, length, ◌≤◌}
use Rattle.std.proofs.Common.{subst, ◌∙◌}
use Rattle.wasm_types.specs.declared.field.WasmFieldType.{WasmFieldType}
use Rattle.wasm_types.specs.Texts.{field_text}
use Rattle.plan_laws.proofs.TypeTexts.{struct-short}
use Rattle.plan_laws.proofs.type_bytes.structure.Goals as goal

pub returns : goal.returns
returns c =
    let P : List WasmFieldType → Type 0 = λ fs. All (λ f. length (field_text f) ≤ 45) fs in
    struct-short c.args.ty.now (subst P (c.as_slice.ensures.value ∙ c.ty.view_is) c.fields.ensures)
