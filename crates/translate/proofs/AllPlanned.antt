-- A translation whose memories and then tables are planned is the planned translation of its
-- module.
use Rattle.std.proofs.Common.{◌≡◌, ◌<◌, ◌+◌, ℕ, false, List, length, sym, ap, subst, ◌∙◌}
use Rattle.std.proofs.lemmas.List.{length-map}
use Rattle.wasm_spec.specs.Module.{Module}
use Rattle.rule_spec.specs.Lists.{Lists, lists_of_module}
use Rattle.wasm_index.specs.Index.{index_of}
use Rattle.wasm_types.specs.declared.tunables.Tunables.{Tunables}
use Rattle.replay_spec.specs.Globals.{AgreesOnGlobals, initialisers}
use Rattle.replay_spec.specs.Plan.{MemoryPlan, Agrees}
use Rattle.replay_spec.specs.Startup.{Startup, startup_of, first_startup, raised_by_tables, raised_by_memories}
use Rattle.replay_spec.specs.Tables.{TablePlan, IsTablePlan}
use Rattle.type_spec.specs.Interned.{Built}
use Rattle.module_types.specs.Builder.{BuilderState, builder_view, starts}
use Rattle.module_types.specs.Views.{interned_of}
use Rattle.init_plan.specs.declared.translation.ModuleTranslation.{ModuleTranslation}
use Rattle.init_plan.specs.Agreement.{AgreesOnElements, AgreesInAll}
use Rattle.init_plan.specs.Held.{plan_of_globals}
use Rattle.init_plan.specs.Startup.{startup_kind, raised, types_after}
use Rattle.table_images.specs.Left.{IsLeft}
use Rattle.init_plan.specs.Tables.{tables_of, elements_of, plan_of_tables, startup_with_tables, AreCounted, OnlyTableInitChanges}
use Rattle.init_plan.specs.Views.{memory_plan_of, OnlyMemoryInitChanges}
use Rattle.init_plan.proofs.Holding.{memories_same}
use Rattle.init_plan.proofs.Agreeing.{agree_in_all}
use Rattle.module_environ.specs.Translated.{IsTranslated}
use Rattle.interned_types.specs.Types.{interned_list}
use Rattle.translate.specs.Options.{InitOptions, startup_by}
use Rattle.translate.specs.Initialised.{Initialises}
use Rattle.translate.proofs.PlannedMemories.{HoldsData, MemoriesTell, initialises_memories, memories_also}
use Rattle.translate.proofs.PlannedTables.{holds_still, plans_tables}
use Rattle.translate.proofs.Started.{IsStarted, next, starts_first, first_room, has_room, few_types, raised-memories, raised-tables}
use Rattle.translate.proofs.Unchanged.{changes_both}

-- the plan of the memories of a translation, and then that of its tables
pub record Plans (i : InitOptions) (m : Module) (old mid new : ModuleTranslation) (b mid_types new_types : BuilderState) : Type 0 where
  pub memories : MemoriesTell i old mid
  pub memories_same : OnlyMemoryInitChanges old mid
  pub memories_startup : mid.module.startup ≡ raised (raised_by_memories (memory_plan_of mid) (startup_kind old.module.startup)) old.module.startup (builder_view b)
  pub memories_types : builder_view mid_types ≡ types_after (raised_by_memories (memory_plan_of mid) (startup_kind old.module.startup)) old.module.startup (builder_view b)
  pub tables : IsTablePlan i.tunables.table_lazy_init mid.module.num_imported_tables (tables_of mid) (elements_of mid) (plan_of_tables new)
  pub tables_same : OnlyTableInitChanges mid new
  pub tables_left : IsLeft mid.table_initialization new.table_initialization
  pub tables_counted : AreCounted new
  pub tables_startup : new.module.startup ≡ raised (startup_with_tables mid (plan_of_tables new)) mid.module.startup (builder_view mid_types)
  pub tables_types : builder_view new_types ≡ types_after (startup_with_tables mid (plan_of_tables new)) mid.module.startup (builder_view mid_types)
  pub agree_globals : AgreesOnGlobals (lists_of_module m).imported_globals (initialisers (lists_of_module m)) (plan_of_globals old)
  pub agree_memories : Agrees m (memory_plan_of mid)
  pub agree_tables : AgreesOnElements m (plan_of_tables new)

module _ {tunables : Tunables} {bytes : List ℕ} {old : ModuleTranslation} {b : BuilderState} (told : IsTranslated tunables (index_of 0) 0 bytes old b) where
  abbrev listed : Built
  listed = interned_list told.meaning false

  abbrev kind : Startup
  kind = first_startup (lists_of_module told.meaning)

  started : IsStarted listed kind old.module.startup (builder_view b)
  started = starts_first told.meaning old.module.startup (builder_view b) told.translation.startup told.types

  room : length listed.types + 1 < 4294967295
  room = first_room told.meaning (builder_view b) told.types

  -- the startup type still fits, before the memories are planned and once they are
  pub room_first : length (starts (builder_view b)).built.types < 4294967295
  room_first = has_room listed kind old.module.startup (builder_view b) started room

  pub holds_data : HoldsData told.meaning old
  holds_data = record {
    holds = told.ready.holds_memories;
    memories = memories_same told.meaning old told.ready.holds_memories;
    passive = told.translation.sections.data_segments.passive;
  }

  module _ (mid : ModuleTranslation) (types : BuilderState)
      (startup : mid.module.startup ≡ raised (raised_by_memories (memory_plan_of mid) (startup_kind old.module.startup)) old.module.startup (builder_view b))
      (grown : builder_view types ≡ types_after (raised_by_memories (memory_plan_of mid) (startup_kind old.module.startup)) old.module.startup (builder_view b)) where
    started_memories : IsStarted listed (raised_by_memories (memory_plan_of mid) kind) mid.module.startup (builder_view types)
    started_memories = next listed (raised_by_memories (memory_plan_of mid)) kind old.module.startup mid.module.startup (builder_view b) (builder_view types)
        (raised-memories (memory_plan_of mid)) started startup grown

    pub room_next : length (starts (builder_view types)).built.types < 4294967295
    room_next = has_room listed (raised_by_memories (memory_plan_of mid) kind) mid.module.startup (builder_view types) started_memories room

module _ (i : InitOptions) {bytes : List ℕ} {old mid new : ModuleTranslation} {b mid_types new_types : BuilderState}
    (told : IsTranslated i.tunables (index_of 0) 0 bytes old b)
    (startup_law : (l : Lists) (tables : TablePlan) (memories : MemoryPlan)
    → raised_by_tables tables (raised_by_memories memories (first_startup l)) ≡ startup_of l tables memories)
    (plans : Plans i told.meaning old mid new b mid_types new_types) where
  last_started : IsStarted (interned_list told.meaning false) (startup_by told.meaning (memory_plan_of new) (plan_of_tables new)) new.module.startup
      (builder_view new_types)
  last_started =
      subst (λ (k : Startup). IsStarted (interned_list told.meaning false) k new.module.startup (builder_view new_types))
      (startup_law (lists_of_module told.meaning) (plan_of_tables new) (memory_plan_of mid)
      ∙ ap (λ t. startup_by told.meaning (memory_plan_of t) (plan_of_tables new)) (sym plans.tables_same))
      (next (interned_list told.meaning false) (raised_by_tables (plan_of_tables new)) _ mid.module.startup new.module.startup
      (builder_view mid_types) (builder_view new_types) (raised-tables (plan_of_tables new))
      (started_memories told mid mid_types plans.memories_startup plans.memories_types) plans.tables_startup plans.tables_types)

  -- the plan of the tables keeps that of the memories, and both the globals
  agreed : AgreesInAll told.meaning (plan_of_globals new) (memory_plan_of new) (plan_of_tables new)
  agreed = agree_in_all told.meaning (plan_of_globals new) (memory_plan_of new) (plan_of_tables new)
      (subst (AgreesOnGlobals (lists_of_module told.meaning).imported_globals (initialisers (lists_of_module told.meaning)))
      (sym (ap plan_of_globals plans.tables_same ∙ ap plan_of_globals plans.memories_same)) plans.agree_globals)
      (subst (λ t. Agrees told.meaning (memory_plan_of t)) (sym plans.tables_same) plans.agree_memories) plans.agree_tables

  pub all_planned : Initialises i bytes new new_types
  all_planned = record {
    meaning = told.meaning;
    read = told.read;
    keeps = told.keeps;
    initialised = record {
      rest = record {
        before = old;
        translation = told.translation;
        same = changes_both old mid new plans.memories_same plans.tables_same;
        left = subst (λ (t : ModuleTranslation). IsLeft t.table_initialization new.table_initialization) plans.memories_same plans.tables_left;
        counts = plans.tables_counted;
      };
      agrees = agreed;
      memories = initialises_memories i told.meaning old (holds_data told) mid new plans.memories plans.tables_same;
      tables = plans_tables i told.meaning mid (plan_of_tables new)
          (holds_still told.meaning old mid plans.memories_same told.ready.holds_tables) plans.tables;
      startup = last_started.startup;
      also = memories_also i told.meaning old (holds_data told) mid new plans.memories told.keeps plans.tables_same;
    };
    types = last_started.built;
    sound = last_started.sound;
    few = let fewer = few_types _ _ new.module.startup (builder_view new_types) last_started (room told) in
        subst (λ (n : ℕ). n < 4294967295) (length-map new_types.list.types interned_of) fewer;
  }
