use Rattle.std.specs.Prelude.{List, All, length, ◌≤◌, ◌+◌, ◌*◌}
use Rattle.std.proofs.Common.{subst, ◌∙◌}
use Rattle.wasm_index.specs.declared.index.Index.{Index}
use Rattle.wasm_index.specs.declared.spaces.ModuleInternedTypeSpace.{ModuleInternedTypeSpace}
use Rattle.wasm_index.specs.Index.{index_of}
use Rattle.wasm_types.specs.declared.sub.WasmSubType.{WasmSubType}
use Rattle.wasm_types.specs.Texts.{sub_text}
use Rattle.plan_laws.specs.TextCosts.{type_parts}
use Rattle.plan_laws.proofs.Lengths.{keyed-all}
use Rattle.plan_laws.proofs.type_list_bytes.subtypes.Goals as goal

pub loop-ty-init : goal.loop-ty-init
loop-ty-init c =
    let P : List (Index ModuleInternedTypeSpace × WasmSubType) → Type 0 = λ ps. All (λ (p : Index ModuleInternedTypeSpace × WasmSubType). length (sub_text p.1) ≤ 72 + 46 * type_parts p.1) ps in
    λ h. keyed-all index_of (λ (ty : WasmSubType). length (sub_text ty) ≤ 72 + 46 * type_parts ty) c.args.types.now.types (subst P (c.into_iter-ty-iterator.ensures.into_iter_gives ∙ c.wasm_types-ty-items.ensures) h)
