-- A translation whose memories and then tables are planned can be run.
use Rattle.std.proofs.Common.{◌≡◌, ℕ, ◌≤◌, Bool, List, length, sym, subst, arith}
use Rattle.std.specs.Int.{IsPowerOfTwo}
use Rattle.wasm_spec.specs.Module.{Module}
use Rattle.rule_spec.specs.Lists.{lists_of_module}
use Rattle.wasm_index.specs.declared.index.Index.{Index}
use Rattle.wasm_index.specs.declared.spaces.StaticModuleSpace.{StaticModuleSpace}
use Rattle.wasm_types.specs.declared.tunables.Tunables.{Tunables}
use Rattle.replay_spec.specs.Held.{held_initialisers}
use Rattle.replay_spec.specs.Images.{ImageOptions, IsMemoryPlan}
use Rattle.replay_spec.specs.Tables.{IsTablePlan}
use Rattle.module_types.specs.Builder.{BuilderState}
use Rattle.init_plan.specs.declared.translation.ModuleTranslation.{ModuleTranslation}
use Rattle.init_plan.specs.Views.{memory_plan_of, initializers_of, passive_bytes}
use Rattle.init_plan.specs.Images.{image_memories}
use Rattle.init_plan.specs.Tables.{tables_of, elements_of, plan_of_tables}
use Rattle.module_sections.specs.Sections.{HasEntities, CountsImports}
use Rattle.module_environ.specs.Translated.{IsTranslated}
use Rattle.module_environ.proofs.Answering.{globals_split}
use Rattle.plan_run.specs.Finished.{Finished}
use Rattle.translate.proofs.Unchanged.{with_memories, with_tables, both-planned}
use Rattle.run_laws.specs.Planned.{MemoriesArePlanned, TablesArePlanned}
use Rattle.run_laws.proofs.Runnable.{IsPlannedSo, finished}

-- imported globals are among the globals
pub globals-among : (m : Module) (t : ModuleTranslation) → HasEntities m t → CountsImports m t.module → t.module.num_imported_globals ≤ length t.module.globals
globals-among m t entities counts = omega (arith, globals_split m t entities counts)

module _ (tunables : Tunables) (index : Index StaticModuleSpace) (validator : ℕ) (bytes : List ℕ) (types : BuilderState) (options : ImageOptions) (lazy : Bool)
    (old mid new : ModuleTranslation) (told : IsTranslated tunables index validator bytes old types) (page : IsPowerOfTwo options.page)
    (memories : MemoriesArePlanned options old mid) (tables : TablesArePlanned lazy mid new) where
  same : new ≡ with_tables new (with_memories mid old)
  same = both-planned old mid new memories.same tables.same

  planned-so : IsPlannedSo options lazy (held_initialisers (lists_of_module told.meaning)) (initializers_of old) (passive_bytes old)
      (tables_of mid) (elements_of mid) new
  planned-so = record {
    page = page;
    imported_globals = rw same (globals-among told.meaning old told.translation.sections.entities told.translation.sections.counts);
    global_plan = rw same told.ready.holds_globals;
    imported_memories = rw same told.ready.memories.imports;
    page_sizes = rw same told.ready.memories.page_sizes;
    active_low = rw same told.ready.memories.in_range;
    memory_plan = rw tables.same (subst (λ (t : ModuleTranslation). IsMemoryPlan options t.module.num_imported_memories (image_memories t.module)
        (initializers_of old) (passive_bytes old) (memory_plan_of mid)) (sym memories.same) memories.planned);
    processed = rw tables.same memories.processed;
    segmented = rw tables.same (λ is. (memories.begins.segmented is).1);
    imaged = rw tables.same (λ is. (memories.begins.images is).1);
    imported_tables = rw same told.ready.tables.imports;
    elements_low = rw (tables.same, memories.same) told.ready.tables.in_range;
    table_plan = subst (λ (t : ModuleTranslation). IsTablePlan lazy t.module.num_imported_tables (tables_of mid) (elements_of mid) (plan_of_tables new)) (sym tables.same)
        tables.planned;
    counted = tables.counts;
  }

  pub translated-finished : Finished new
  translated-finished = finished _ _ _ _ _ _ _ new planned-so
