-- What the tables say of interned types.
use Rattle.std.specs.Prelude.{◌≡◌, ℕ, ◌+◌, List, [], ◌∷◌, ◌++◌, length, map, Option, Some, None}
use Rattle.std.specs.List.{flat_map}
use Rattle.wasm_index.specs.Index.{number_of}
use Rattle.wasm_types.specs.declared.composite.WasmCompositeInnerType.{WasmCompositeInnerType}
use Rattle.wasm_types.specs.declared.composite.WasmCompositeInnerType.TheVariants as inner
use Rattle.wasm_types.specs.declared.field.WasmFieldType.{WasmFieldType}
use Rattle.wasm_types.specs.declared.field.WasmStorageType.{WasmStorageType}
use Rattle.wasm_types.specs.declared.field.WasmStorageType.TheVariants as storage
use Rattle.wasm_types.specs.declared.index.EngineOrModuleTypeIndex.{EngineOrModuleTypeIndex}
use Rattle.wasm_types.specs.declared.sub.WasmSubType.{WasmSubType}
use Rattle.wasm_types.specs.declared.value.WasmValType.{WasmValType}
use Rattle.wasm_types.specs.Indices.{cont_index}
use Rattle.module_types.specs.TypeList.{TypeList, called_from}
use Rattle.module_types.specs.Views.{TypeIndex}
use Rattle.plan_tables.specs.declared.record.InternedRecord.{InternedRecord}
use Rattle.plan_tables.specs.declared.rows.FieldRow.{FieldRow}
use Rattle.plan_tables.specs.declared.rows.Span.{Span}
use Rattle.plan_tables.specs.declared.rows.TrampolineRow.{TrampolineRow}
use Rattle.plan_tables.specs.declared.rows.TypeRow.{TypeRow}
use Rattle.plan_tables.specs.declared.rows.ValueRow.{ValueRow}
use Rattle.plan_tables.specs.Numbers.{bit}
use Rattle.plan_tables.specs.Values.{index_list, index_number, plain_row, value_row}

-- what a field holds: also packed integers
abbrev pub storage_row : WasmStorageType → ValueRow
storage_row storage.I8 = plain_row 6
storage_row storage.I16 = plain_row 7
storage_row (storage.Val t) = value_row t

abbrev pub field_row : WasmFieldType → FieldRow
field_row f = record { value = storage_row f.element_type; writable = bit f.mutable }

-- a parameter or a result
abbrev pub parameter_row : WasmValType → FieldRow
parameter_row t = record { value = value_row t; writable = 0 }

-- the fields of a type, or its parameters and then its results
abbrev pub fields_of : WasmCompositeInnerType → List FieldRow
fields_of (inner.Array t) = field_row t.0 ∷ []
fields_of (inner.Func t) = map parameter_row t.params ++ map parameter_row t.results
fields_of (inner.Struct t) = map field_row t
fields_of (inner.Cont t) = []
fields_of (inner.Exn t) = map field_row t.fields

abbrev pub inner_kind : WasmCompositeInnerType → ℕ
inner_kind (inner.Array t) = 0
inner_kind (inner.Func t) = 1
inner_kind (inner.Struct t) = 2
inner_kind (inner.Cont t) = 3
inner_kind (inner.Exn t) = 4

-- how many of them are results
abbrev pub result_count : WasmCompositeInnerType → ℕ
result_count (inner.Func t) = length t.results
result_count _ = 0

-- the function type of a continuation or an exception
abbrev pub function_of : WasmCompositeInnerType → Option EngineOrModuleTypeIndex
function_of (inner.Cont t) = Some (cont_index t)
function_of (inner.Exn t) = Some t.func_ty
function_of _ = None

-- a type whose fields are a part of the others
abbrev pub type_row : WasmSubType → Span → TypeRow
type_row t fields = record {
  kind = inner_kind t.composite_type.inner;
  is_final = bit t.is_final;
  shared = bit t.composite_type.shared;
  supertype_list = index_list t.supertype;
  function_list = index_list (function_of t.composite_type.inner);
  supertype = index_number t.supertype;
  function = index_number (function_of t.composite_type.inner);
  fields = fields;
  results = result_count t.composite_type.inner;
}

-- types whose fields are end to end behind n others
abbrev pub type_rows : ℕ → List WasmSubType → List TypeRow
type_rows n [] = []
type_rows n (t ∷ ts) = let len = length (fields_of t.composite_type.inner) in
    type_row t (record { begin = n; len = len }) ∷ type_rows (n + len) ts

abbrev pub trampoline_row : TypeIndex × TypeIndex → TrampolineRow
trampoline_row t = record { ty = number_of t.0; trampoline = number_of t.1 }

pub record TellsInterned (types : TypeList) (r : InternedRecord) : Type 0 where
  pub rows : r.types.now ≡ type_rows 0 types.types
  -- the fields of all types, end to end
  pub fields : r.fields.now ≡ flat_map (λ t. fields_of t.composite_type.inner) types.types
  -- the types that have a trampoline, in order
  pub trampolines : r.trampolines.now ≡ map trampoline_row (called_from 0 types.trampolines)
