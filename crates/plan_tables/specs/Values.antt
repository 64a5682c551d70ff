-- Value types as numbers.
use Rattle.std.specs.Prelude.{ℕ, Option, Some, None}
use Rattle.wasm_types.specs.declared.heap.WasmHeapType.{WasmHeapType}
use Rattle.wasm_types.specs.declared.heap.WasmHeapType.TheVariants as heap
use Rattle.wasm_types.specs.declared.index.EngineOrModuleTypeIndex.{EngineOrModuleTypeIndex}
use Rattle.wasm_types.specs.declared.index.EngineOrModuleTypeIndex.TheVariants.{Engine, Module, RecGroup}
use Rattle.wasm_types.specs.declared.value.WasmRefType.{WasmRefType}
use Rattle.wasm_types.specs.declared.value.WasmValType.{WasmValType}
use Rattle.wasm_types.specs.declared.value.WasmValType.TheVariants as val
use Rattle.wasm_types.specs.Indices.{heap_index}
use Rattle.plan_lines.specs.TypeLines.{listed_number}
use Rattle.plan_tables.specs.declared.rows.ValueRow.{ValueRow}
use Rattle.plan_tables.specs.Numbers.{bit}

-- a heap type by its position in the enumeration
abbrev pub heap_number : WasmHeapType → ℕ
heap_number heap.Extern = 0
heap_number heap.NoExtern = 1
heap_number heap.Func = 2
heap_number (heap.ConcreteFunc i) = 3
heap_number heap.NoFunc = 4
heap_number heap.Exn = 5
heap_number (heap.ConcreteExn i) = 6
heap_number heap.NoExn = 7
heap_number heap.Cont = 8
heap_number (heap.ConcreteCont i) = 9
heap_number heap.NoCont = 10
heap_number heap.Any = 11
heap_number heap.Eq = 12
heap_number heap.I31 = 13
heap_number heap.Array = 14
heap_number (heap.ConcreteArray i) = 15
heap_number heap.Struct = 16
heap_number (heap.ConcreteStruct i) = 17
heap_number heap.None = 18

-- which list an index is of
abbrev pub index_list : Option EngineOrModuleTypeIndex → ℕ
index_list None = 0
index_list (Some (Engine i)) = 1
index_list (Some (Module i)) = 2
index_list (Some (RecGroup i)) = 3

abbrev pub index_number : Option EngineOrModuleTypeIndex → ℕ
index_number None = 0
index_number (Some i) = listed_number i

abbrev pub ref_row : WasmRefType → ValueRow
ref_row r = record {
  kind = 5;
  nullable = bit r.nullable;
  heap = heap_number r.heap_type;
  list = index_list (heap_index r.heap_type);
  index = index_number (heap_index r.heap_type);
}

abbrev pub plain_row : ℕ → ValueRow
plain_row kind = record { kind = kind; nullable = 0; heap = 0; list = 0; index = 0 }

abbrev pub value_row : WasmValType → ValueRow
value_row val.I32 = plain_row 0
value_row val.I64 = plain_row 1
value_row val.F32 = plain_row 2
value_row val.F64 = plain_row 3
value_row val.V128 = plain_row 4
value_row (val.Ref r) = ref_row r
