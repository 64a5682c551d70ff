-- Types of translated modules as data of an interned list, and the way back.
use Rattle.std.specs.Prelude.{ℕ, false, map}
use Rattle.std.specs.declared.ops.Range.{Range}
use Rattle.wasm_spec.specs.TypeData as types
use Rattle.wasm_spec.specs.TypeData.{map_sub_type, map_function, map_value, map_heap}
use Rattle.type_spec.specs.Names.{Named, named}
use Rattle.type_spec.specs.Interned.{Interned, Called, GroupSpan}
use Rattle.wasm_index.specs.declared.index.Index.{Index}
use Rattle.wasm_index.specs.declared.spaces.ModuleInternedTypeSpace.{ModuleInternedTypeSpace}
use Rattle.wasm_index.specs.Index.{number_of, index_of}
use Rattle.wasm_types.specs.declared.index.EngineOrModuleTypeIndex.{EngineOrModuleTypeIndex}
use Rattle.wasm_types.specs.declared.index.EngineOrModuleTypeIndex.TheVariants as index
use Rattle.wasm_types.specs.declared.heap.WasmHeapType.{WasmHeapType}
use Rattle.wasm_types.specs.declared.value.WasmValType.{WasmValType}
use Rattle.wasm_types.specs.declared.value.WasmValType.TheVariants as val
use Rattle.wasm_types.specs.declared.field.WasmFieldType.{WasmFieldType}
use Rattle.wasm_types.specs.declared.field.WasmStorageType.TheVariants as storage
use Rattle.wasm_types.specs.declared.func.WasmFuncType.{WasmFuncType}
use Rattle.wasm_types.specs.declared.composite.WasmCompositeInnerType.{WasmCompositeInnerType}
use Rattle.wasm_types.specs.declared.sub.WasmSubType.{WasmSubType}
use Rattle.wasm_types.specs.ValueViews.{value_of}
use Rattle.wasm_types.specs.TypeViews.{function_of, composite_of, sub_type_of}
use Rattle.wasm_types.specs.ViewsTell.{heap_from}

-- the index of an interned type
abbrev pub TypeIndex : Type 0
TypeIndex = Index ModuleInternedTypeSpace

-- the number of the interned type that an index names; the index of another list is viewed as the
-- reserved number, and names none
abbrev pub interned_number : EngineOrModuleTypeIndex → ℕ
interned_number (index.Module i) = number_of i
interned_number (index.Engine i) = 4294967295
interned_number (index.RecGroup i) = 4294967295

abbrev pub plain_value : WasmValType → types.ValueType (Named ℕ)
plain_value v = map_value (named interned_number) (value_of v)

-- a function type, whose references are interned indices
abbrev pub called_of : WasmFuncType → Called
called_of f = map_function (named interned_number) (function_of f)

abbrev pub inner_of : WasmCompositeInnerType → types.Composite (Named ℕ) ℕ
inner_of c = types.map_composite (named interned_number) interned_number (composite_of c)

-- a type, whose references are interned indices
abbrev pub interned_of : WasmSubType → Interned
interned_of t = map_sub_type (named interned_number) interned_number (sub_type_of t)

-- a range of indices
abbrev pub span_of : Range TypeIndex → GroupSpan
span_of r = record { start = number_of r.start; end = number_of r.end }

-- ---- the way back

abbrev pub index_at : ℕ → EngineOrModuleTypeIndex
index_at n = index.Module (index_of n)

abbrev pub heap_at : types.Heap (Named ℕ) → WasmHeapType
heap_at h = heap_from (map_heap (named index_at) h)

abbrev pub value_at : types.ValueType (Named ℕ) → WasmValType
value_at types.I32 = val.I32
value_at types.I64 = val.I64
value_at types.F32 = val.F32
value_at types.F64 = val.F64
value_at types.V128 = val.V128
value_at (types.Ref r) = val.Ref (record { nullable = r.nullable; heap_type = heap_at r.heap })

-- the function type that has these parts
abbrev pub function_at : Called → WasmFuncType
function_at f = record { params = map value_at f.params; results = map value_at f.results }

-- the field of an exception type for a parameter
abbrev pub field_at : WasmValType → WasmFieldType
field_at v = record { element_type = storage.Val v; mutable = false }
