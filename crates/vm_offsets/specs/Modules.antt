-- The counts of a translated module.
use Rattle.std.specs.Prelude.{◌≤◌, ◌-◌, Bool, true, false, not, length, drop, count_by}
use Rattle.wasm_module.specs.declared.startup.ModuleStartup.{ModuleStartup}
use Rattle.wasm_module.specs.declared.startup.ModuleStartup.TheVariants.{None, Always, IfMemoriesNeedInit}
use Rattle.wasm_module.specs.Record.{ModuleRecord}
use Rattle.vm_offsets.specs.declared.fields.VMOffsetsFields.{VMOffsetsFields}

-- each index space holds what is imported into it
pub record HoldsImports (m : ModuleRecord) : Type 0 where
  pub functions : m.num_imported_funcs ≤ length m.functions
  pub tables : m.num_imported_tables ≤ length m.tables
  pub memories : m.num_imported_memories ≤ length m.memories
  pub globals : m.num_imported_globals ≤ length m.globals
  pub tags : m.num_imported_tags ≤ length m.tags

-- whether there is something to run at the start
abbrev pub has_startup : ModuleStartup → Bool
has_startup None = false
has_startup (Always type) = true
has_startup (IfMemoriesNeedInit type) = true

-- the counts of a module; it owns the memories that it defines and that are not shared
abbrev pub module_counts : {P : Type 0} → P → ModuleRecord → VMOffsetsFields P
module_counts ptr m = record {
  ptr = ptr;
  num_imported_functions = m.num_imported_funcs;
  num_imported_tables = m.num_imported_tables;
  num_imported_memories = m.num_imported_memories;
  num_imported_globals = m.num_imported_globals;
  num_imported_tags = m.num_imported_tags;
  num_defined_tables = length m.tables - m.num_imported_tables;
  num_defined_memories = length m.memories - m.num_imported_memories;
  num_owned_memories = count_by (λ memory. not memory.shared) (drop m.num_imported_memories m.memories);
  num_defined_globals = length m.globals - m.num_imported_globals;
  num_defined_tags = length m.tags - m.num_imported_tags;
  num_escaped_funcs = m.num_escaped_funcs;
  num_runtime_data = length m.runtime_data;
  has_startup_func = has_startup m.startup;
}
