-- The elements of element segments (core specification, 2.5, element segments).
use Rattle.std.specs.Prelude.{ℕ, true, length}
use Rattle.wasm_types.specs.declared.heap.WasmHeapType.TheVariants.{Func}
use Rattle.wasm_types.specs.declared.value.WasmRefType.{WasmRefType}
use Rattle.wasm_module.specs.declared.table_initialization.TableSegmentElements.{TableSegmentElements}
use Rattle.wasm_module.specs.declared.table_initialization.TableSegmentElements.TheVariants.{Functions, Expressions}

-- the type of each element: functions are of type `funcref`
abbrev pub element_type : TableSegmentElements → WasmRefType
element_type (Functions functions) = record { nullable = true; heap_type = Func }
element_type (Expressions ty expressions) = ty

-- how many elements there are
abbrev pub element_count : TableSegmentElements → ℕ
element_count (Functions functions) = length functions.items
element_count (Expressions ty expressions) = length expressions.items
