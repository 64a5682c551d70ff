use Rattle.std.specs.Prelude.{List, All, length, ◌≤◌}
use Rattle.std.proofs.Common.{subst, ap, ◌∙◌}
use Rattle.wasm_types.specs.declared.field.WasmFieldType.{WasmFieldType}
use Rattle.wasm_types.specs.Texts.{index_text, field_text}
use Rattle.wasm_types.specs.declared.index.EngineOrModuleTypeIndex.{EngineOrModuleTypeIndex}
use Rattle.wasm_types.specs.Parts.{ExnParts}
use Rattle.plan_laws.proofs.TypeTexts.{exn-short}
use Rattle.plan_laws.proofs.type_bytes.exception.Goals as goal

pub returns : goal.returns
returns c =
    let P : List WasmFieldType → Type 0 = λ fs. All (λ f. length (field_text f) ≤ 45) fs in
    let Q : EngineOrModuleTypeIndex → Type 0 = λ i. length (index_text i) ≤ 21 in
    exn-short c.args.ty.now (subst Q (ap (λ (t : ExnParts). t.func_ty) c.ty.view_is) c.index.ensures.text)
    (subst P (c.as_slice.ensures.value ∙ ap (λ (t : ExnParts). t.fields) c.ty.view_is) c.fields.ensures)
