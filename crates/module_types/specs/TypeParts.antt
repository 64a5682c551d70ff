-- The composite types in a list of types.
use Rattle.std.specs.Prelude.{ℕ, ◌+◌, Bool, true, false, List, [], ◌∷◌, slice_get, Option, Some, None, option_and_then, if◌then◌else◌}
use Rattle.wasm_index.specs.Index.{number_of, index_of}
use Rattle.wasm_types.specs.declared.value.WasmValType.{WasmValType}
use Rattle.wasm_types.specs.declared.value.WasmValType.TheVariants as val
use Rattle.wasm_types.specs.declared.composite.WasmCompositeInnerType.{WasmCompositeInnerType}
use Rattle.wasm_types.specs.declared.composite.WasmCompositeInnerType.TheVariants as inner
use Rattle.wasm_types.specs.declared.sub.WasmSubType.{WasmSubType}
use Rattle.module_types.specs.Views.{TypeIndex}

-- the composite type of the type at an index
abbrev pub part_at : {T : Type 0} → (WasmCompositeInnerType → Option T) → List WasmSubType → TypeIndex → Option T
part_at part types i = option_and_then (λ (t : WasmSubType). part t.composite_type.inner) (slice_get types (number_of i))

abbrev pub is_one_i32 : List WasmValType → Bool
is_one_i32 (val.I32 ∷ []) = true
is_one_i32 _ = false

abbrev pub is_nothing : List WasmValType → Bool
is_nothing [] = true
is_nothing _ = false

-- a function with one `i32` and no result, as the one that drops a resource
abbrev pub is_resource_drop : WasmCompositeInnerType → Bool
is_resource_drop (inner.Func f) = if is_one_i32 f.params then is_nothing f.results else false
is_resource_drop _ = false

-- the index of the first type that passes a test, from a position on
abbrev pub first_from : (WasmCompositeInnerType → Bool) → ℕ → List WasmSubType → Option TypeIndex
first_from test i [] = None
first_from test i (t ∷ ts) = if test t.composite_type.inner then Some (index_of i) else first_from test (i + 1) ts
