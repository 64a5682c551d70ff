-- What a record gives as one number each.
use Rattle.std.specs.Prelude.{ℕ, ◌^◌, ◌-◌, length, Option, Some, None, unwrap_or}
use Rattle.wasm_index.specs.declared.index.Index.{Index}
use Rattle.wasm_index.specs.declared.spaces.FuncSpace.{FuncSpace}
use Rattle.wasm_index.specs.Index.{number_of}
use Rattle.wasm_module.specs.declared.memory_initialization.MemoryInitialization.{MemoryInitialization}
use Rattle.wasm_module.specs.declared.memory_initialization.MemoryInitialization.TheVariants as initialization
use Rattle.wasm_module.specs.declared.module.Module.{Module}
use Rattle.wasm_module.specs.declared.startup.ModuleStartup.{ModuleStartup}
use Rattle.wasm_module.specs.declared.startup.ModuleStartup.TheVariants as startup
use Rattle.init_plan.specs.declared.translation.ModuleTranslation.{ModuleTranslation}
use Rattle.module_types.specs.TypeList.{TypeList}
use Rattle.plan_lines.specs.TypeLines.{listed_number}
use Rattle.plan_tables.specs.declared.rows.Entities.{Entities}
use Rattle.plan_tables.specs.declared.rows.Facts.{Facts}
use Rattle.plan_tables.specs.Numbers.{bit}

-- how many entities there are, and how many are imported
abbrev pub entities_row : Module → Entities
entities_row m = record {
  functions = length m.functions;
  imported_functions = m.num_imported_funcs;
  tables = length m.tables;
  imported_tables = m.num_imported_tables;
  memories = length m.memories;
  imported_memories = m.num_imported_memories;
  globals = length m.globals;
  imported_globals = m.num_imported_globals;
  tags = length m.tags;
  imported_tags = m.num_imported_tags;
}

-- when the startup function runs, and its interned type
abbrev pub startup_row : ModuleStartup → ℕ × ℕ
startup_row startup.None = (0, 0)
startup_row (startup.Always ty) = (1, listed_number ty)
startup_row (startup.IfMemoriesNeedInit ty) = (2, listed_number ty)

-- whether memories begin as images
abbrev pub images_bit : MemoryInitialization → ℕ
images_bit initialization.Segmented = 0
images_bit (initialization.Static images) = 1

-- the start function; the greatest number of 32 bits where there is none
abbrev pub start_number : Option (Index FuncSpace) → ℕ
start_number None = 2 ^ 32 - 1
start_number (Some function) = number_of function

-- the facts of a translation, its types, and the bytes of a pointer
abbrev pub facts_row : ModuleTranslation → TypeList → ℕ → Facts
facts_row t types pointer = record {
  startup = (startup_row t.module.startup).0;
  startup_type = (startup_row t.module.startup).1;
  images_made = images_bit t.module.memory_initialization;
  types = length types.types;
  data_align = unwrap_or t.data_align 0;
  start = start_number t.start_func;
  needs_gc_heap = bit t.module.needs_gc_heap;
  escaped = t.module.num_escaped_funcs;
  code_section_offset = t.debuginfo.wasm_file.code_section_offset;
  module_offset = t.wasm_module_offset;
  has_unparsed_debuginfo = bit t.has_unparsed_debuginfo;
  pointer = pointer;
}
