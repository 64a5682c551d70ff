-- Types that were read become types of a translated module (core specification, 2.3): each index is
-- looked up, and all else stays. So conversion is the one `map` of types as data, by a look-up.
-- data, by a look-up.
use Rattle.std.specs.Prelude.{if◌then◌else◌}
use Rattle.wasm_spec.specs.declared.types.UnpackedIndex.{UnpackedIndex}
use Rattle.wasm_spec.specs.declared.types.HeapType.{HeapType}
use Rattle.wasm_spec.specs.declared.entities.TableType.{TableType}
use Rattle.wasm_spec.specs.declared.entities.GlobalType.{GlobalType}
use Rattle.wasm_spec.specs.TypeData.{heap_of, reference_of, value_of, map_heap}
use Rattle.wasm_types.specs.declared.index.EngineOrModuleTypeIndex.{EngineOrModuleTypeIndex}
use Rattle.wasm_types.specs.declared.heap.WasmHeapType.{WasmHeapType}
use Rattle.wasm_types.specs.declared.limits.IndexType.TheVariants.{I32, I64}
use Rattle.wasm_types.specs.EntityData.{GlobalData, TableData}
use Rattle.wasm_types.specs.ValueViews.{Name}
use Rattle.wasm_types.specs.ViewsTell.{heap_with}

-- the result of looking up an index: the kind of the type that it names, and its index
abbrev pub LookUp : Type 0
LookUp = UnpackedIndex → Name

abbrev pub index_in : LookUp → UnpackedIndex → EngineOrModuleTypeIndex
index_in look i = (look i).index

-- the heap type that this data represents, with its index looked up
abbrev pub heap_type_of : LookUp → HeapType → WasmHeapType
heap_type_of look h = (heap_with (map_heap look (heap_of h))).0

-- global and table types that were read, as data
abbrev pub global_type_of : GlobalType → GlobalData UnpackedIndex
global_type_of g = record { value = value_of g.content_type; mutable = g.mutable }

abbrev pub table_type_of : TableType → TableData UnpackedIndex
table_type_of t = record {
  index_type = if t.table64 then I64 else I32;
  limits = record { min = t.initial; max = t.maximum };
  reference = reference_of t.element_type;
}
