-- A heap type with the data of a converted one is the converted one.
use Rattle.std.proofs.Common.{◌≡◌, ◌∙◌, sym}
use Rattle.wasm_spec.specs.declared.types.HeapType.{HeapType}
use Rattle.wasm_spec.specs.TypeData as read
use Rattle.wasm_spec.specs.TypeData.{map_heap}
use Rattle.wasm_types.specs.declared.heap.WasmHeapType.{WasmHeapType}
use Rattle.wasm_types.specs.ValueViews.{heap_of}
use Rattle.wasm_types.specs.ViewsTell.{tells, heap_back, heap_with}
use Rattle.wasm_convert.specs.Conversion.{LookUp, heap_type_of}

pub heap_converted : (look : LookUp) (h : HeapType) (t : WasmHeapType) → heap_of t ≡ map_heap look (read.heap_of h) → t ≡ heap_type_of look h
heap_converted look h t e = tells heap_back t (heap_type_of look h) (e ∙ sym (heap_with (map_heap look (read.heap_of h))).1)
