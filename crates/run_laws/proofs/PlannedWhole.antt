-- The translation of a plan can be run.
use Rattle.std.proofs.Common.{◌≡◌, ℕ, List, map, sym, subst}
use Rattle.std.specs.Int.{IsPowerOfTwo}
use Rattle.wasm_spec.specs.Module.{Module, defined_memories, HasFewEntries}
use Rattle.rule_spec.specs.Lists.{lists_of_module}
use Rattle.rule_spec.specs.Rules.{Keeps}
use Rattle.form_reader.proofs.Entries.{few_entries}
use Rattle.replay_spec.specs.Held.{held_segments, held_tables, held_elements, held_initialisers}
use Rattle.replay_spec.specs.Images.{IsMemoryPlan, image_memory_of}
use Rattle.replay_spec.specs.Tables.{IsTablePlan}
use Rattle.init_plan.specs.declared.translation.ModuleTranslation.{ModuleTranslation}
use Rattle.init_plan.specs.Views.{memory_plan_of}
use Rattle.init_plan.specs.Images.{image_memories}
use Rattle.init_plan.specs.Tables.{plan_of_tables}
use Rattle.module_environ.specs.Readable.{IsReadable}
use Rattle.module_sections.specs.Sections.{HasSections}
use Rattle.module_environ.specs.Translated.{IsReady}
use Rattle.module_environ.proofs.Answering.{is_ready}
use Rattle.translate.specs.Initialised.{IsInitialised}
use Rattle.translate.specs.Options.{InitOptions, images, passive_bytes}
use Rattle.plan_run.specs.Finished.{Finished}
use Rattle.run_laws.proofs.Runnable.{IsPlannedSo, finished}
use Rattle.run_laws.proofs.Translated.{globals-among}

module _ (i : InitOptions) (bytes : List ℕ) (m : Module) (t : ModuleTranslation) (page : IsPowerOfTwo i.page_size) (read : IsReadable bytes m) (keeps : Keeps m)
    (is : IsInitialised i bytes m t) (held : image_memories is.rest.before.module ≡ map image_memory_of (defined_memories m)) where
  abbrev old : ModuleTranslation
  old = is.rest.before

  abbrev sections : HasSections i.tunables.debug_guest m old
  sections = is.rest.translation.sections

  few : HasFewEntries m
  few = few_entries bytes m read.spelled read.short

  ready : IsReady m old
  ready = is_ready i.tunables.debug_guest m old sections keeps few

  planned-so : IsPlannedSo (images i) i.tunables.table_lazy_init (held_initialisers (lists_of_module m)) (held_segments m) (passive_bytes m)
      (held_tables (lists_of_module m)) (held_elements (lists_of_module m).elements) t
  planned-so = record {
    page = page;
    imported_globals = rw is.rest.same (globals-among m old sections.entities sections.counts);
    global_plan = rw is.rest.same ready.holds_globals;
    imported_memories = rw is.rest.same ready.memories.imports;
    page_sizes = rw is.rest.same ready.memories.page_sizes;
    active_low = rw (is.rest.same, ← sections.data_segments.active) ready.memories.in_range;
    memory_plan = subst (λ (x : ModuleTranslation). IsMemoryPlan (images i) x.module.num_imported_memories (image_memories x.module) (held_segments m)
        (passive_bytes m) (memory_plan_of t)) (sym is.rest.same) (rw (held, sections.counts.memories) is.memories.plan);
    processed = is.memories.processed;
    segmented = λ none. (is.memories.segmented none).1;
    imaged = λ some. (is.memories.imaged some).1;
    imported_tables = rw is.rest.same ready.tables.imports;
    elements_low = rw (is.rest.same, ← ready.holds_tables.active) ready.tables.in_range;
    table_plan = subst (λ (x : ModuleTranslation). IsTablePlan i.tunables.table_lazy_init x.module.num_imported_tables (held_tables (lists_of_module m))
        (held_elements (lists_of_module m).elements) (plan_of_tables t))
        (sym is.rest.same) (rw ready.holds_tables.imports is.tables);
    counted = is.rest.counts;
  }

  pub planned-finished : Finished t
  planned-finished = finished _ _ _ _ _ _ _ t planned-so
