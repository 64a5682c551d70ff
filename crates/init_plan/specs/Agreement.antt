-- A plan agrees with a module: replayed over any imports, it gives the globals, memories and tables
-- of the module's initialisers.
use Rattle.std.specs.Prelude.{◌≡◌, ℕ, List, length}
use Rattle.wasm_spec.specs.Module.{Module, table_import, imported_of, imported_memories}
use Rattle.rule_spec.specs.Lists.{lists_of_module}
use Rattle.replay_spec.specs.Classes.{field_count}
use Rattle.replay_spec.specs.Phases.{Phase, SamePhase}
use Rattle.replay_spec.specs.Values.{Value, offset_over}
use Rattle.replay_spec.specs.Data.{module_phase}
use Rattle.replay_spec.specs.Plan.{MemoryPlan, phase_by_map, phase_by_list}
use Rattle.replay_spec.specs.Elements.{elements_phase, defined_tables, active_elements}
use Rattle.replay_spec.specs.Tables.{TablePlan, planned_elements_phase, AgreesOnTables}
use Rattle.replay_spec.specs.Globals.{GlobalPlan, initialisers, values_after, planned_globals}

-- the element phase of a plan is the module's
abbrev pub AgreesOnElements : Module → TablePlan → Type 0
AgreesOnElements m plan = let l = lists_of_module m in
    AgreesOnTables (length (imported_of table_import m)) (defined_tables l) (active_elements l.elements) plan

-- how many fields the struct types of a module have
abbrev pub fields_of : Module → ℕ → ℕ
fields_of m = field_count (lists_of_module m)

-- the values of the globals of a module, over those of the imported ones
abbrev pub globals_of : Module → List Value → List Value
globals_of m imported = values_after (fields_of m) imported (initialisers (lists_of_module m))

-- the element phase of a module, over the values of its globals
abbrev pub module_elements_phase : List Value → List (List Value) → Module → Phase Value
module_elements_phase globals imported m = let l = lists_of_module m in
    elements_phase globals (fields_of m) imported (defined_tables l) (active_elements l.elements)

-- Over any values of the imported globals the plan gives the module's globals. Over these, and any
-- contents of the imported memories and tables, it leaves the module's bytes, by the map and by the
-- list of the plan, and the module's cells. It traps where the module's segments trap.
pub record AgreesInAll (m : Module) (globals : GlobalPlan) (memories : MemoryPlan) (tables : TablePlan) : Type 0 where
  pub on_globals : (imported : List Value) → length imported ≡ (lists_of_module m).imported_globals
      → planned_globals (fields_of m) imported globals ≡ globals_of m imported
  pub by_map : (imported : List Value) (contents : List (List ℕ)) → length imported ≡ (lists_of_module m).imported_globals
      → length contents ≡ length (imported_memories m) → SamePhase (module_phase (globals_of m imported) (fields_of m) contents m)
      (phase_by_map (offset_over (planned_globals (fields_of m) imported globals) (fields_of m)) contents memories)
  pub by_list : (imported : List Value) (contents : List (List ℕ)) → length imported ≡ (lists_of_module m).imported_globals
      → length contents ≡ length (imported_memories m) → SamePhase (module_phase (globals_of m imported) (fields_of m) contents m)
      (phase_by_list (offset_over (planned_globals (fields_of m) imported globals) (fields_of m)) contents memories)
  pub on_tables : (imported : List Value) (contents : List (List Value)) → length imported ≡ (lists_of_module m).imported_globals
      → length contents ≡ length (imported_of table_import m) → SamePhase (module_elements_phase (globals_of m imported) contents m)
      (planned_elements_phase (planned_globals (fields_of m) imported globals) (fields_of m) contents tables)
