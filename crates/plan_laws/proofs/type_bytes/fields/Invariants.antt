use Rattle.std.proofs.Common.{ℕ, ◌<◌, ◌≤◌, length, get_or}
use Rattle.wasm_types.specs.declared.field.WasmFieldType.{WasmFieldType}
use Rattle.wasm_types.specs.Texts.{field_text}
use Rattle.plan_laws.proofs.type_bytes.fields.Given as goal

abbrev pub invariant-loop-ty : goal.invariant-loop-ty
invariant-loop-ty l = (k : ℕ) (d : WasmFieldType) → k < l.ty-index → length (field_text (get_or l.types k d)) ≤ 45
