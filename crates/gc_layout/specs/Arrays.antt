-- The offsets of the elements of an array.
use Rattle.std.specs.Prelude.{ℕ, ◌+◌, max}
use Rattle.std.specs.Int.{next_multiple_of}
use Rattle.wasm_types.specs.Collected.{storage_is_object}
use Rattle.wasm_types.specs.declared.aggregate.WasmArrayType.{WasmArrayType}
use Rattle.gc_layout.specs.declared.array.GcArrayLayout.{GcArrayLayout}
use Rattle.gc_layout.specs.Sizes.{field_size}

-- the length, a 32-bit number, is after the header; the elements begin at the next multiple of
-- their size
abbrev pub array_layout_of : ℕ → WasmArrayType → GcArrayLayout
array_layout_of header array = record {
  base_size = next_multiple_of (header + 4) (field_size array.0);
  align = max 8 (field_size array.0);
  elem_size = field_size array.0;
  elems_are_gc_refs = storage_is_object array.0.element_type;
}
