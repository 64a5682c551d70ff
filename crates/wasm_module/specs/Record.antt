-- The record of a translated module, as one plain value.
use Rattle.std.specs.Prelude.{ℕ, Bool, false, List, [], Option, None, map}
use Rattle.entity_map.specs.declared.pool.Atom.{Atom}
use Rattle.wasm_index.specs.declared.index.Index.{Index}
use Rattle.wasm_index.specs.declared.spaces.DefinedGlobalSpace.{DefinedGlobalSpace}
use Rattle.wasm_index.specs.declared.spaces.FuncSpace.{FuncSpace}
use Rattle.wasm_index.specs.declared.spaces.StaticModuleSpace.{StaticModuleSpace}
use Rattle.wasm_types.specs.declared.entity.EntityIndex.{EntityIndex}
use Rattle.wasm_types.specs.declared.global.Global.{Global}
use Rattle.wasm_types.specs.declared.index.EngineOrModuleTypeIndex.{EngineOrModuleTypeIndex}
use Rattle.wasm_types.specs.declared.memory.Memory.{Memory}
use Rattle.wasm_types.specs.declared.table.Table.{Table}
use Rattle.wasm_types.specs.declared.tag.Tag.{Tag}
use Rattle.wasm_types.specs.declared.value.WasmRefType.{WasmRefType}
use Rattle.wasm_convert.specs.declared.values.GlobalConstValue.{GlobalConstValue}
use Rattle.wasm_module.specs.declared.function.FunctionType.{FunctionType}
use Rattle.wasm_module.specs.declared.initializer.Initializer.{Initializer}
use Rattle.wasm_module.specs.declared.memory_initialization.MemoryInitialization.{MemoryInitialization}
use Rattle.wasm_module.specs.declared.memory_initialization.MemoryInitialization.TheVariants.{Segmented}
use Rattle.wasm_module.specs.declared.startup.ModuleStartup.{ModuleStartup}
use Rattle.wasm_module.specs.declared.startup.ModuleStartup.TheVariants as startup
use Rattle.wasm_module.specs.declared.module.Module.{Module}

-- a module: its texts, lists and counts, named as its fields
pub record ModuleRecord : Type 0 where
  pub module_index : Index StaticModuleSpace
  pub strings : List (List ℕ)
  pub name : Option Atom
  pub initializers : List Initializer
  pub exports : List (Atom × EntityIndex)
  pub startup : ModuleStartup
  pub table_initialization : List (List (Index FuncSpace))
  pub memory_initialization : MemoryInitialization
  pub passive_elements : List (WasmRefType × ℕ)
  -- from and up to
  pub runtime_data : List (ℕ × ℕ)
  pub types : List EngineOrModuleTypeIndex
  pub num_imported_funcs : ℕ
  pub num_imported_tables : ℕ
  pub num_imported_memories : ℕ
  pub num_imported_globals : ℕ
  pub num_imported_tags : ℕ
  pub needs_gc_heap : Bool
  pub num_escaped_funcs : ℕ
  pub functions : List FunctionType
  pub tables : List Table
  pub memories : List Memory
  pub globals : List Global
  pub global_initializers : List (Index DefinedGlobalSpace × GlobalConstValue)
  pub tags : List Tag

-- the plain value of a module; the capacities of its lists and the seed of its map do not count
abbrev pub record_of : Module → ModuleRecord
record_of m = record {
  module_index = m.module_index;
  strings = m.strings;
  name = m.name;
  initializers = m.initializers.items;
  exports = m.exports.entries;
  startup = m.startup;
  table_initialization = map (λ image. image.items) m.table_initialization;
  memory_initialization = m.memory_initialization;
  passive_elements = m.passive_elements;
  runtime_data = map (λ range. (range.start, range.end)) m.runtime_data;
  types = m.types;
  num_imported_funcs = m.num_imported_funcs;
  num_imported_tables = m.num_imported_tables;
  num_imported_memories = m.num_imported_memories;
  num_imported_globals = m.num_imported_globals;
  num_imported_tags = m.num_imported_tags;
  needs_gc_heap = m.needs_gc_heap;
  num_escaped_funcs = m.num_escaped_funcs;
  functions = m.functions;
  tables = m.tables;
  memories = m.memories;
  globals = m.globals;
  global_initializers = m.global_initializers.items;
  tags = m.tags;
}

-- the record without entities and names
abbrev pub empty_record : Index StaticModuleSpace → ModuleRecord
empty_record module_index = record {
  module_index = module_index;
  strings = [];
  name = None;
  initializers = [];
  exports = [];
  startup = startup.None;
  table_initialization = [];
  memory_initialization = Segmented;
  passive_elements = [];
  runtime_data = [];
  types = [];
  num_imported_funcs = 0;
  num_imported_tables = 0;
  num_imported_memories = 0;
  num_imported_globals = 0;
  num_imported_tags = 0;
  needs_gc_heap = false;
  num_escaped_funcs = 0;
  functions = [];
  tables = [];
  memories = [];
  globals = [];
  global_initializers = [];
  tags = [];
}
