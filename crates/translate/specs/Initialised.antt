-- A translation whose memories and tables are planned.
use Rattle.std.specs.Prelude.{◌≡◌, ℕ, ◌-◌, ◌^◌, ◌<◌, List, false, length, map, sum_by, Contains, Some, None}
use Rattle.wasm_spec.specs.Module.{Module, segments}
use Rattle.rule_spec.specs.Rules.{Keeps}
use Rattle.wasm_index.specs.Index.{index_of}
use Rattle.replay_spec.specs.Plan.{ranges_from}
use Rattle.module_types.specs.Builder.{BuilderState, builder_view}
use Rattle.init_plan.specs.declared.translation.ModuleTranslation.{ModuleTranslation}
use Rattle.init_plan.specs.Views.{memory_plan_of, ranges_of, IsSegmented, IsProcessed, FindsInOrder}
use Rattle.table_images.specs.Left.{IsLeft}
use Rattle.init_plan.specs.Tables.{plan_of_tables, AreCounted}
use Rattle.init_plan.specs.Held.{plan_of_globals}
use Rattle.init_plan.specs.Agreement.{AgreesInAll}
use Rattle.init_plan.specs.Startup.{startup_with}
use Rattle.module_sections.specs.Initialisers.{passive_data_from}
use Rattle.module_environ.specs.Readable.{IsReadable}
use Rattle.module_environ.specs.Translation.{IsTranslation}
use Rattle.interned_types.specs.Types.{interned_list, type_index}
use Rattle.translate.specs.Options.{InitOptions, images, passive_bytes, startup_by, runs, BecomesImages, PlansMemories, PlansTables}
use Rattle.translate.specs.Also.{AlsoHolds}

-- all but how memories and tables begin, runtime data, what remains to be written, and startup
abbrev pub OnlyInitChanges : ModuleTranslation → ModuleTranslation → Type 0
OnlyInitChanges old new = new ≡ record old {
  «module» = record old.module {
    memory_initialization = new.module.memory_initialization;
    table_initialization = new.module.table_initialization;
    runtime_data = new.module.runtime_data;
    startup = new.module.startup;
  };
  table_initialization = new.table_initialization;
  runtime_data_map = new.runtime_data_map;
  runtime_data = new.runtime_data;
  memory_init = new.memory_init;
  data_align = new.data_align;
}

-- in all else it is the translation of the module; what is kept of how its tables begin is the very
-- value that the translation has
pub record TranslatesRest (i : InitOptions) (bytes : List ℕ) (m : Module) (t : ModuleTranslation) : Type 0 where
  pub before : ModuleTranslation
  pub translation : IsTranslation i.tunables (index_of 0) 0 bytes m before
  pub same : OnlyInitChanges before t
  pub left : IsLeft before.table_initialization t.table_initialization
  -- each defined table has one initial value and one image
  pub counts : AreCounted t

-- its memories, and what remains to be written to them
pub record InitialisesMemories (i : InitOptions) (m : Module) (t : ModuleTranslation) : Type 0 where
  -- by the image rule all active segments become images, or all are kept, in order
  pub plan : PlansMemories i m (memory_plan_of t)
  pub segmented : IsSegmented t.module.memory_initialization → (¬ BecomesImages i m) × (t.data_align ≡ None)
  pub imaged : ¬ IsSegmented t.module.memory_initialization → BecomesImages i m × (t.data_align ≡ Some i.page_size)
  pub processed : IsProcessed t.memory_init
  -- the ranges of runtime data are end to end from 0
  pub ranges : ranges_of t.module ≡ ranges_from 0 (map length (memory_plan_of t).runtime)
  pub fits : sum_by length (memory_plan_of t).runtime < 2 ^ 32
  -- the passive segments are found after the other runtime data, in order
  pub in_order : let plan = memory_plan_of t in let ps = passive_data_from 0 (segments m) in
      FindsInOrder plan.runtime plan.passive (length plan.runtime - length ps) ps
  -- and nothing else is found
  pub others : (index : ℕ) → ¬ Contains (map (λ p. p.0) (passive_data_from 0 (segments m))) index → (memory_plan_of t).passive index ≡ None

-- the translation of the module, planned
pub record IsInitialised (i : InitOptions) (bytes : List ℕ) (m : Module) (t : ModuleTranslation) : Type 0 where
  pub rest : TranslatesRest i bytes m t
  -- replayed over any imports it gives the globals, table cells, memory bytes and traps of the
  -- module's initialisers
  pub agrees : AgreesInAll m (plan_of_globals t) (memory_plan_of t) (plan_of_tables t)
  pub memories : InitialisesMemories i m t
  -- images of tables hold the longest prefix of element segments that they may, and the others are
  -- kept, in order
  pub tables : PlansTables i m (plan_of_tables t)
  -- startup runs exactly when something remains to be done; its type comes last
  pub startup : t.module.startup ≡ startup_with (startup_by m (memory_plan_of t) (plan_of_tables t)) (type_index (length (interned_list m false).types))
  -- it follows from the rest, and a reader may pass over it
  pub also : AlsoHolds i m t

-- the bytes spell a module that keeps the listed rules; this is its translation, planned, and the
-- builder holds its types, with a startup type exactly where startup may run
pub record Initialises (i : InitOptions) (bytes : List ℕ) (t : ModuleTranslation) (b : BuilderState) : Type 0 where
  pub meaning : Module
  pub read : IsReadable bytes meaning
  pub keeps : Keeps meaning
  pub initialised : IsInitialised i bytes meaning t
  pub types : (builder_view b).built ≡ interned_list meaning (runs (startup_by meaning (memory_plan_of t) (plan_of_tables t)))
  pub sound : b.is_poisoned ≡ false
  pub few : length b.list.types < 4294967295
