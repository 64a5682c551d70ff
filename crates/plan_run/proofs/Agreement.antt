-- A run of a plan that agrees with a module gives what the module's initialisers give.
use Rattle.std.proofs.Common.{◌≡◌, ℕ, List, length, map, Option, ap, ◌∙◌, arith}
use Rattle.std.proofs.lemmas.List.{length-map}
use Rattle.module_types.specs.TypeList.{TypeList}
use Rattle.replay_spec.specs.Phases.{Phase, SamePhase}
use Rattle.replay_spec.specs.Values.{Value}
use Rattle.plan_run.specs.Values.{imported_value}
use Rattle.init_plan.specs.declared.translation.ModuleTranslation.{ModuleTranslation}
use Rattle.init_plan.specs.Agreement.{fields_of, globals_of}
use Rattle.init_plan.specs.Held.{plan_of_globals}
use Rattle.replay_spec.specs.Data.{module_phase}
use Rattle.replay_spec.specs.Globals.{planned_globals}
use Rattle.plan_run.specs.declared.laid.Imports.{Imports}
use Rattle.plan_run.specs.declared.laid.Laid.{Laid}
use Rattle.plan_run.specs.declared.laid.Way.{Way}
use Rattle.plan_run.specs.declared.laid.Way.TheVariants as way
use Rattle.plan_run.specs.Fields.{field_count_in}
use Rattle.plan_run.specs.Lays.{Lays}
use Rattle.plan_run.specs.Memories.{bytes_in}
use Rattle.plan_run.specs.Laid.{imported_globals, imported_tables, data_phase}
use Rattle.plan_run.specs.Agreement.{AgreementLaw}

-- objects that hold what a phase leaves hold what a phase that is the same leaves
pub lays-same : {A : Type 0} {one other : Phase A} {n : ℕ} {objects : List (List A)} {trapped : Option ℕ} → SamePhase one other → Lays other n objects trapped
    → Lays one n objects trapped
lays-same same lays = grind arith

-- the globals of the plan, over these numbers of fields
abbrev globals_with : (ℕ → ℕ) → ModuleTranslation → Imports → List Value
globals_with fields t imports = planned_globals fields (imported_globals imports) (plan_of_globals t)

pub agreement : (t : ModuleTranslation) (types : TypeList) (w : Way) (imports : Imports) (laid : Laid) → AgreementLaw t types w imports laid
agreement t types w imports laid m agrees fields counted globals memories tables =
    let same : field_count_in t types ≡ fields_of m = λ i index. fields index i in
    let many = length-map imports.globals.items imported_value ∙ counted.globals in
    record {
      globals = globals ∙ ap (λ f. globals_with f t imports) same ∙ agrees.on_globals (imported_globals imports) many;
      memories = memories_of w same memories;
      tables = lays-same (agrees.on_tables (imported_globals imports) (imported_tables imports) many
          (length-map imports.tables.items (λ table. map imported_value table.items) ∙ counted.tables)) (rw same at tables);
    }
  where
    memories_of : (w : Way) → field_count_in t types ≡ fields_of m → Lays (data_phase t types w imports) (length t.module.memories) (bytes_in laid.memories.items) laid.memory_trap
        → Lays (module_phase (globals_of m (imported_globals imports)) (fields_of m) (bytes_in imports.memories.items) m) (length t.module.memories) (bytes_in laid.memories.items) laid.memory_trap
    memories_of way.Map same lays =
        lays-same (agrees.by_map (imported_globals imports) (bytes_in imports.memories.items) (length-map imports.globals.items imported_value ∙ counted.globals)
        (length-map imports.memories.items (λ memory. memory.bytes) ∙ counted.memories)) (rw same at lays)
    memories_of way.Copy same lays =
        lays-same (agrees.by_list (imported_globals imports) (bytes_in imports.memories.items) (length-map imports.globals.items imported_value ∙ counted.globals)
        (length-map imports.memories.items (λ memory. memory.bytes) ∙ counted.memories)) (rw same at lays)
