-- A run of a plan that agrees with a module gives what the module's initialisers give.
use Rattle.std.specs.Prelude.{◌≡◌, ℕ, length}
use Rattle.wasm_spec.specs.Module.{Module, imported_of, table_import, imported_memories}
use Rattle.rule_spec.specs.Lists.{lists_of_module}
use Rattle.module_types.specs.TypeList.{TypeList}
use Rattle.replay_spec.specs.Data.{module_phase}
use Rattle.init_plan.specs.declared.translation.ModuleTranslation.{ModuleTranslation}
use Rattle.init_plan.specs.Views.{memory_plan_of}
use Rattle.init_plan.specs.Held.{plan_of_globals}
use Rattle.init_plan.specs.Tables.{plan_of_tables}
use Rattle.init_plan.specs.Agreement.{AgreesInAll, fields_of, globals_of, module_elements_phase}
use Rattle.plan_run.specs.declared.laid.Imports.{Imports}
use Rattle.plan_run.specs.declared.laid.Laid.{Laid}
use Rattle.plan_run.specs.declared.laid.Way.{Way}
use Rattle.plan_run.specs.Fields.{field_count_in}
use Rattle.plan_run.specs.Lays.{Lays}
use Rattle.plan_run.specs.Memories.{bytes_in}
use Rattle.plan_run.specs.Laid.{imported_globals, imported_tables, laid_globals, laid_tables, GlobalsAreLaid, MemoriesAreLaid, TablesAreLaid}

-- the translation's struct types have the fields of the module's
abbrev pub HasFieldsOf : Module → ModuleTranslation → TypeList → Type 0
HasFieldsOf m t types = (index : ℕ) → field_count_in t types index ≡ fields_of m index

-- globals, memories, tables and traps are those of the module
pub record IsOfModule (m : Module) (t : ModuleTranslation) (imports : Imports) (laid : Laid) : Type 0 where
  pub globals : laid_globals laid ≡ globals_of m (imported_globals imports)
  pub memories : Lays (module_phase (globals_of m (imported_globals imports)) (fields_of m) (bytes_in imports.memories.items) m) (length t.module.memories)
      (bytes_in laid.memories.items) laid.memory_trap
  pub tables : Lays (module_elements_phase (globals_of m (imported_globals imports)) (imported_tables imports) m) (length t.module.tables) (laid_tables laid) laid.table_trap

-- as many imports as the module has
pub record AreCountedBy (m : Module) (imports : Imports) : Type 0 where
  pub globals : length imports.globals.items ≡ (lists_of_module m).imported_globals
  pub memories : length imports.memories.items ≡ length (imported_memories m)
  pub tables : length imports.tables.items ≡ length (imported_of table_import m)

-- for every module with which the plan agrees, and whose struct types have the same fields
abbrev pub AgreementLaw : ModuleTranslation → TypeList → Way → Imports → Laid → Type 0
AgreementLaw t types w imports laid = (m : Module) → AgreesInAll m (plan_of_globals t) (memory_plan_of t) (plan_of_tables t) → HasFieldsOf m t types → AreCountedBy m imports
    → GlobalsAreLaid t types imports laid → MemoriesAreLaid t types w imports laid → TablesAreLaid t types imports laid → IsOfModule m t imports laid
