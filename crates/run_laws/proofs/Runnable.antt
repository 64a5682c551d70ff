-- A translation that is planned can be run.
use Rattle.std.proofs.Common.{◌≡◌, ℕ, ◌+◌, ◌-◌, ◌<◌, ◌≤◌, ◌⊎◌, inl, inr, Bool, List, length, drop, None, Some, sym, ◌∙◌, ap, arith}
use Rattle.std.specs.Prelude.{slice_get, All, unwrap_or}
use Rattle.std.specs.Option.{option_map}
use Rattle.std.specs.Int.{IsPowerOfTwo}
use Rattle.std.proofs.Math.Logic.{⊎_elim}
use Rattle.std.proofs.lemmas.List.{length-map, length-drop}
use Rattle.std.proofs.lemmas.Option.{slice_get-map, none-some, same_Some}
use Rattle.wasm_spec.specs.Module.{Expression}
use Rattle.wasm_types.specs.declared.memory.Memory.{Memory}
use Rattle.wasm_module.specs.declared.memory_initialization.MemoryInitialization.{MemoryInitialization}
use Rattle.wasm_module.specs.declared.memory_initialization.MemoryInitialization.TheVariants as initialization
use Rattle.replay_spec.specs.Data.{ActiveSegment}
use Rattle.replay_spec.specs.Elements.{ActiveElements, DefinedTable}
use Rattle.replay_spec.specs.Globals.{IsGlobalPlan}
use Rattle.replay_spec.specs.Images.{ImageOptions, ImageMemory, size_of, IsMemoryPlan}
use Rattle.replay_spec.specs.Tables.{IsTablePlan}
use Rattle.replay_spec.proofs.Joined.{positive-power}
use Rattle.init_plan.specs.declared.translation.ModuleTranslation.{ModuleTranslation}
use Rattle.init_plan.specs.Views.{memory_plan_of, images_of, IsSegmented, IsProcessed}
use Rattle.memory_images.specs.Views.{image_memory}
use Rattle.init_plan.specs.Images.{image_memories}
use Rattle.init_plan.specs.Held.{plan_of_globals, simple_global_of, kept_global_of}
use Rattle.init_plan.specs.Tables.{plan_of_tables, AreCounted}
use Rattle.plan_run.specs.Finished.{Finished, GlobalsAreFinished, MemoriesAreFinished, TablesAreFinished, ImageFits}
use Rattle.plan_run.specs.Limits.{page_size_of}
use Rattle.plan_run.proofs.Lists.{get-drop}
use Rattle.form_types.proofs.AllOf.{All-from_map}
use Rattle.run_laws.proofs.GlobalNumbers.{simple-low, kept-low}
use Rattle.run_laws.proofs.ImagesFit.{images-are, segments-below}
use Rattle.run_laws.proofs.TableImages.{images-short, kept-are}

-- what is known of a translation whose memories and tables are planned
pub record IsPlannedSo (options : ImageOptions) (lazy : Bool) (initialisers : List Expression) (active : List ActiveSegment) (passive : List (List ℕ))
    (tables : List DefinedTable) (elements : List ActiveElements) (t : ModuleTranslation) : Type 0 where
  pub page : IsPowerOfTwo options.page
  pub imported_globals : t.module.num_imported_globals ≤ length t.module.globals
  pub global_plan : IsGlobalPlan initialisers (plan_of_globals t)
  pub imported_memories : t.module.num_imported_memories ≤ length t.module.memories
  pub page_sizes : All (λ memory. (memory.page_size_log2 ≡ 0) ⊎ (memory.page_size_log2 ≡ 16)) t.module.memories
  pub active_low : All (λ s. s.memory < length t.module.memories) active
  pub memory_plan : IsMemoryPlan options t.module.num_imported_memories (image_memories t.module) active passive (memory_plan_of t)
  pub processed : IsProcessed t.memory_init
  pub segmented : IsSegmented t.module.memory_initialization → t.data_align ≡ None
  pub imaged : (IsSegmented t.module.memory_initialization → ⊥) → t.data_align ≡ Some options.page
  pub imported_tables : t.module.num_imported_tables ≤ length t.module.tables
  pub elements_low : All (λ s. s.table < length t.module.tables) elements
  pub table_plan : IsTablePlan lazy t.module.num_imported_tables tables elements (plan_of_tables t)
  pub counted : AreCounted t

-- ---- how memories begin

segmented-or-not : (init : MemoryInitialization) → IsSegmented init ⊎ (IsSegmented init → ⊥)
segmented-or-not initialization.Segmented = inl tt
segmented-or-not (initialization.Static images) = inr (λ is. is)

not-segmented : (init : MemoryInitialization) (i : ℕ) (image : ℕ × ℕ) → slice_get (images_of init) i ≡ Some (Some image) → IsSegmented init → ⊥
not-segmented initialization.Segmented i image at is = none-some _ at
not-segmented (initialization.Static images) i image at is = is

module _ (options : ImageOptions) (lazy : Bool) (initialisers : List Expression) (active : List ActiveSegment) (passive : List (List ℕ))
    (tables : List DefinedTable) (elements : List ActiveElements) (t : ModuleTranslation)
    (is : IsPlannedSo options lazy initialisers active passive tables elements t) where
  positive : 0 < options.page
  positive = let page = is.page in rw page.1 (positive-power page.0)

  page-positive : 0 < page_size_of t
  page-positive = ⊎_elim
      (λ (none : IsSegmented t.module.memory_initialization). let e = is.segmented none in rw e (omega arith))
      (λ (some : IsSegmented t.module.memory_initialization → ⊥). let e = is.imaged some in rw e positive)
      (segmented-or-not t.module.memory_initialization)

  -- the definition's memory of a number is the translation's
  same-memory : (i : ℕ) (m : Memory) (found : ImageMemory) → t.module.num_imported_memories ≤ i → slice_get t.module.memories i ≡ Some m
      → slice_get (image_memories t.module) (i - t.module.num_imported_memories) ≡ Some found → found ≡ image_memory m
  same-memory i m found defined at is_found =
      let n = t.module.num_imported_memories in
      let there : n + (i - n) ≡ i = omega arith in
      let own : slice_get (drop n t.module.memories) (i - n) ≡ Some m = get-drop n t.module.memories (i - n) ∙ ap (slice_get t.module.memories) there ∙ at in
      let seen : slice_get (image_memories t.module) (i - n) ≡ Some (image_memory m) = slice_get-map image_memory (drop n t.module.memories) (i - n)
      ∙ ap (option_map image_memory) own in
      same_Some found (image_memory m) (sym is_found ∙ seen)

  image-fits : (i : ℕ) (image : ℕ × ℕ) → slice_get (memory_plan_of t).images i ≡ Some (Some image) → ImageFits t i image
  image-fits i image at =
      let h = images-are options t.module.num_imported_memories (image_memories t.module) active passive (memory_plan_of t) is.page is.memory_plan i image at in
      let page : page_size_of t ≡ options.page = ap (λ o. unwrap_or o 4096) (is.imaged (not-segmented t.module.memory_initialization i image at)) in
      record {
        defined = h.defined;
        within = λ m found.
            let same = ap size_of (same-memory i m h.memory h.defined found h.is_memory) in
            rw page (h.start, h.whole, omega (arith, h.within, same));
        alone = h.alone;
      }

  globals-finished : GlobalsAreFinished t
  globals-finished = record {
    imports = is.imported_globals;
    simple = All-from_map (λ g. g.0 < length t.module.globals - t.module.num_imported_globals) simple_global_of t.module.global_initializers.items
        (simple-low initialisers (plan_of_globals t) is.global_plan);
    kept = All-from_map (λ g. g.0 < length t.module.globals - t.module.num_imported_globals) kept_global_of t.global_initializers.items
        (kept-low initialisers (plan_of_globals t) is.global_plan);
  }

  memories-finished : MemoriesAreFinished t
  memories-finished =
      let n = t.module.num_imported_memories in
      let own = length-map (drop n t.module.memories) image_memory ∙ length-drop n t.module.memories in
      record {
        processed = is.processed;
        imports = is.imported_memories;
        page_sizes = is.page_sizes;
        page = page-positive;
        segments = segments-below options n (image_memories t.module) active passive (memory_plan_of t) is.page is.memory_plan (length t.module.memories)
            (omega (arith, own, is.imported_memories)) is.active_low;
        images = image-fits;
      }

  tables-finished : TablesAreFinished t
  tables-finished = record {
    imports = is.imported_tables;
    counted = is.counted;
    images = images-short lazy t.module.num_imported_tables tables elements (plan_of_tables t) is.table_plan;
    elements = kept-are lazy t.module.num_imported_tables tables elements (plan_of_tables t) is.table_plan (λ s. s.table < length t.module.tables) is.elements_low;
  }

  pub finished : Finished t
  finished = record { globals = globals-finished; memories = memories-finished; tables = tables-finished }
