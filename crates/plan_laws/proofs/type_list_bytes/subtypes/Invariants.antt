use Rattle.std.proofs.Common.{◌≤◌, ◌+◌, ◌*◌, length}
use Rattle.std.specs.List.{All}
use Rattle.wasm_index.specs.declared.index.Index.{Index}
use Rattle.wasm_index.specs.declared.spaces.ModuleInternedTypeSpace.{ModuleInternedTypeSpace}
use Rattle.wasm_types.specs.declared.sub.WasmSubType.{WasmSubType}
use Rattle.wasm_types.specs.Texts.{sub_text}
use Rattle.plan_laws.specs.TextCosts.{type_parts}
use Rattle.plan_laws.proofs.type_list_bytes.subtypes.Given as goal

abbrev pub invariant-loop-ty : goal.invariant-loop-ty
invariant-loop-ty l = All (λ (p : Index ModuleInternedTypeSpace × WasmSubType). length (sub_text p.1) ≤ 72 + 46 * type_parts p.1) l.ty-iterator → All (λ ty. length (sub_text ty) ≤ 72 + 46 * type_parts ty) l.types.types
