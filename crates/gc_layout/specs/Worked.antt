-- Small types, for the worked examples.
use Rattle.std.specs.Prelude.{ℕ, List, map, true, false}
use Rattle.wasm_types.specs.declared.field.WasmStorageType.{WasmStorageType}
use Rattle.wasm_types.specs.declared.field.WasmFieldType.{WasmFieldType}
use Rattle.gc_layout.specs.declared.fields.GcStructLayoutField.{GcStructLayoutField}

-- a field that is not written
abbrev pub field_of : WasmStorageType → WasmFieldType
field_of t = record { element_type = t; mutable = false }

abbrev pub fields_of : List WasmStorageType → List WasmFieldType
fields_of types = map field_of types

-- a field that the collector does not trace
abbrev pub data_at : ℕ → GcStructLayoutField
data_at offset = record { offset = offset; is_gc_ref = false }

-- a field that may hold a reference to an object
abbrev pub object_at : ℕ → GcStructLayoutField
object_at offset = record { offset = offset; is_gc_ref = true }
