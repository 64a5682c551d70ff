-- A plan agrees on globals, memories and tables together.
use Rattle.std.proofs.Common.{subst, sym}
use Rattle.wasm_spec.specs.Module.{Module}
use Rattle.rule_spec.specs.Lists.{lists_of_module}
use Rattle.replay_spec.specs.Phases.{SamePhase}
use Rattle.replay_spec.specs.Values.{offset_over}
use Rattle.replay_spec.specs.Data.{module_phase}
use Rattle.replay_spec.specs.Plan.{MemoryPlan, phase_by_map, phase_by_list, Agrees}
use Rattle.replay_spec.specs.Tables.{TablePlan, planned_elements_phase}
use Rattle.replay_spec.specs.Globals.{GlobalPlan, AgreesOnGlobals, initialisers}
use Rattle.init_plan.specs.Agreement.{AgreesOnElements, fields_of, globals_of, module_elements_phase, AgreesInAll}

pub agree_in_all : (m : Module) (globals : GlobalPlan) (memories : MemoryPlan) (tables : TablePlan)
    → AgreesOnGlobals (lists_of_module m).imported_globals (initialisers (lists_of_module m)) globals
    → Agrees m memories → AgreesOnElements m tables → AgreesInAll m globals memories tables
agree_in_all m globals memories tables on_globals on_memories on_tables = record {
  on_globals = λ imported is. on_globals (fields_of m) imported is;
  by_map = λ imported contents is count.
      subst (λ known. SamePhase (module_phase (globals_of m imported) (fields_of m) contents m) (phase_by_map (offset_over known (fields_of m)) contents memories))
      (sym (on_globals (fields_of m) imported is)) (on_memories.by_map (globals_of m imported) (fields_of m) contents count);
  by_list = λ imported contents is count.
      subst (λ known. SamePhase (module_phase (globals_of m imported) (fields_of m) contents m) (phase_by_list (offset_over known (fields_of m)) contents memories))
      (sym (on_globals (fields_of m) imported is)) (on_memories.by_list (globals_of m imported) (fields_of m) contents count);
  on_tables = λ imported contents is count.
      subst (λ known. SamePhase (module_elements_phase (globals_of m imported) contents m) (planned_elements_phase known (fields_of m) contents tables))
      (sym (on_globals (fields_of m) imported is)) (on_tables (globals_of m imported) (fields_of m) contents count);
}
