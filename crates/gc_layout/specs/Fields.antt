-- The offsets of the fields of structs and exceptions. Numbers are exact: none wraps.
use Rattle.std.specs.Prelude.{◌≡◌, ◌≤◌, ℕ, ◌+◌, ◌%◌, max, Bool, true, false, List, fold, map, slice_index}
use Rattle.std.specs.Int.{next_multiple_of}
use Rattle.std.specs.List.{scan}
use Rattle.wasm_types.specs.Collected.{storage_is_object}
use Rattle.wasm_types.specs.declared.field.WasmFieldType.{WasmFieldType}
use Rattle.wasm_types.specs.declared.aggregate.WasmStructType.{WasmStructType}
use Rattle.wasm_types.specs.declared.aggregate.WasmExnType.{WasmExnType}
use Rattle.gc_layout.specs.declared.fields.GcStructLayoutField.{GcStructLayoutField}
use Rattle.gc_layout.specs.Sizes.{field_size}

-- how contracts view the layout of a struct or an exception
pub record FieldsLayout : Type 0 where
  pub size : ℕ
  pub align : ℕ
  pub fields : List GcStructLayoutField
  pub is_exception : Bool

-- where a field begins: the least multiple of its size that is not below the end of what is before
-- it
abbrev pub offset_after : ℕ → WasmFieldType → ℕ
offset_after end field = next_multiple_of end (field_size field)

-- where it ends
abbrev pub end_after : ℕ → WasmFieldType → ℕ
end_after end field = offset_after end field + field_size field

-- the field in the layout
abbrev pub placed_after : ℕ → WasmFieldType → GcStructLayoutField
placed_after end field = record {
  offset = offset_after end field;
  is_gc_ref = storage_is_object field.element_type;
}

-- consecutive fields, after a header that ends at `header`
abbrev pub placed_fields : ℕ → List WasmFieldType → List GcStructLayoutField
placed_fields header fields = scan end_after placed_after header fields

-- where the last of them ends
abbrev pub fields_end : ℕ → List WasmFieldType → ℕ
fields_end header fields = fold end_after header fields

-- the alignment of an object: the greatest of 8 and the sizes of its fields
abbrev pub fields_align : List WasmFieldType → ℕ
fields_align fields = fold max 8 (map field_size fields)

-- the layout of an object: its size is the end of its last field, rounded up to its alignment
abbrev pub fields_layout : ℕ → List WasmFieldType → Bool → FieldsLayout
fields_layout header fields is_exception = record {
  size = next_multiple_of (fields_end header fields) (fields_align fields);
  align = fields_align fields;
  fields = placed_fields header fields;
  is_exception = is_exception;
}

-- the fields of a struct are after the header
abbrev pub struct_layout_of : ℕ → WasmStructType → FieldsLayout
struct_layout_of header fields = fields_layout header fields false

-- those of an exception are after the header and two indices of 4 bytes, which name its tag
abbrev pub exn_layout_of : ℕ → WasmExnType → FieldsLayout
exn_layout_of header exn = fields_layout (header + 8) exn.fields true

-- the offset of the field at a position of a layout
abbrev pub offset_at : FieldsLayout → ℕ → ℕ
offset_at layout i = slice_index (map (λ field. field.offset) layout.fields) i

-- the size of the field at a position
abbrev pub size_at : List WasmFieldType → ℕ → ℕ
size_at fields i = slice_index (map field_size fields) i

-- m is the least multiple of a size that is not below n
pub record IsLeastMultiple (size n m : ℕ) : Type 0 where
  pub multiple : m % size ≡ 0
  pub not_below : n ≤ m
  pub least : (k : ℕ) → k % size ≡ 0 → n ≤ k → m ≤ k
