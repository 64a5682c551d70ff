use Rattle.std.proofs.Common.{ℕ, ◌<◌, ◌≤◌, length, get_or}
use Rattle.wasm_types.specs.declared.value.WasmValType.{WasmValType}
use Rattle.wasm_types.specs.Texts.{val_text}
use Rattle.plan_laws.proofs.type_bytes.values.Given as goal

abbrev pub invariant-loop-ty : goal.invariant-loop-ty
invariant-loop-ty l = (k : ℕ) (d : WasmValType) → k < l.ty-index → length (val_text (get_or l.types k d)) ≤ 39
