-- Two plans begin alike, whatever each was planned with and however it is read.
use Rattle.std.specs.Prelude.{◌≡◌, ℕ, List, length}
use Rattle.replay_spec.specs.Globals.{planned_globals}
use Rattle.replay_spec.specs.Phases.{Phase, SamePhase}
use Rattle.replay_spec.specs.Tables.{planned_elements_phase}
use Rattle.replay_spec.specs.Values.{Value, offset_over}
use Rattle.init_plan.specs.Views.{memory_plan_of}
use Rattle.init_plan.specs.Held.{plan_of_globals}
use Rattle.init_plan.specs.Tables.{plan_of_tables}
use Rattle.plan_text.specs.declared.plan.Plan.{Plan}
use Rattle.plan_run.specs.declared.laid.Way.{Way}
use Rattle.plan_run.specs.Fields.{field_count_in}
use Rattle.plan_run.specs.Memories.{plan_phase}

module _ (plan : Plan) where
  -- how many fields its struct types have
  abbrev pub fields_by : ℕ → ℕ
  fields_by = field_count_in plan.translation plan.types

  -- the globals that it gives, over values of the imported ones
  abbrev pub globals_by : List Value → List Value
  globals_by imported = planned_globals fields_by imported (plan_of_globals plan.translation)

  -- its data phase, over values of the imported globals and contents of the imported memories: by
  -- its map, or by its list
  abbrev pub data_by : Way → List Value → List (List ℕ) → Phase ℕ
  data_by way imported contents = plan_phase way (offset_over (globals_by imported) fields_by) contents (memory_plan_of plan.translation)

  -- its element phase, over values of the imported globals and contents of the imported tables
  abbrev pub elements_by : List Value → List (List Value) → Phase Value
  elements_by imported contents = planned_elements_phase (globals_by imported) fields_by contents (plan_of_tables plan.translation)

-- Over any imports both give the same globals, leave the same bytes and cells, and trap at the same
-- segments, whichever way each is read.
pub record BeginAlike (one other : Plan) : Type 0 where
  pub globals : (imported : List Value) → length imported ≡ one.translation.module.num_imported_globals
      → globals_by one imported ≡ globals_by other imported
  pub bytes : (way other_way : Way) (imported : List Value) (contents : List (List ℕ)) → length imported ≡ one.translation.module.num_imported_globals
      → length contents ≡ one.translation.module.num_imported_memories
      → SamePhase (data_by one way imported contents) (data_by other other_way imported contents)
  pub cells : (imported : List Value) (contents : List (List Value)) → length imported ≡ one.translation.module.num_imported_globals
      → length contents ≡ one.translation.module.num_imported_tables → SamePhase (elements_by one imported contents) (elements_by other imported contents)
