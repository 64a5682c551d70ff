-- The number of bytes of a value inside a collected object.
use Rattle.std.specs.Prelude.{ℕ}
use Rattle.wasm_types.specs.declared.value.WasmValType.{WasmValType}
use Rattle.wasm_types.specs.declared.value.WasmValType.TheVariants.{I32, I64, F32, F64, V128, Ref}
use Rattle.wasm_types.specs.declared.field.WasmStorageType.{WasmStorageType}
use Rattle.wasm_types.specs.declared.field.WasmStorageType.TheVariants.{I8, I16, Val}
use Rattle.wasm_types.specs.declared.field.WasmFieldType.{WasmFieldType}

-- a value: a reference is a 32-bit number
abbrev pub val_size : WasmValType → ℕ
val_size I32 = 4
val_size I64 = 8
val_size F32 = 4
val_size F64 = 8
val_size V128 = 16
val_size (Ref _) = 4

-- what a storage type holds
abbrev pub storage_size : WasmStorageType → ℕ
storage_size I8 = 1
storage_size I16 = 2
storage_size (Val t) = val_size t

-- what a field holds
abbrev pub field_size : WasmFieldType → ℕ
field_size field = storage_size field.element_type
