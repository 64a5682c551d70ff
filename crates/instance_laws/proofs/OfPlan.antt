-- Instantiating a plan that was made of a module.
use Rattle.std.proofs.Common.{◌≡◌, ◌∙◌, ℕ, ◌+◌, List, length, map, Option, sym, subst, ap}
use Rattle.std.specs.Prelude.{slice_get}
use Rattle.std.specs.Option.{option_map}
use Rattle.std.specs.Int.{IsPowerOfTwo}
use Rattle.wasm_spec.specs.Module.{Module, table_import, imported_of, imported_memories, defined_memories}
use Rattle.rule_spec.specs.Lists.{Lists, lists_of_module}
use Rattle.wasm_index.specs.Index.{number_of}
use Rattle.replay_spec.specs.Phases.{last_item}
use Rattle.replay_spec.specs.Values.{Value, offset_over}
use Rattle.replay_spec.specs.Data.{piece_of, active_segments}
use Rattle.replay_spec.specs.Elements.{elements_piece, defined_tables}
use Rattle.replay_spec.specs.Globals.{planned_globals}
use Rattle.replay_spec.specs.Held.{held_segments, held_tables, held_elements}
use Rattle.replay_spec.specs.Images.{ImageMemory, image_memory_of, IsMemoryPlan}
use Rattle.replay_spec.specs.Plan.{MemoryPlan, planned_piece, image_pieces, kept_segments}
use Rattle.replay_spec.specs.Tables.{TablePlan, IsTablePlan, planned_first}
use Rattle.replay_spec.proofs.HeldPhases.{pieces-held, element_pieces-held, first-held, minimums-held}
use Rattle.replay_spec.proofs.Joined.{sizes-module}
use Rattle.init_plan.specs.declared.translation.ModuleTranslation.{ModuleTranslation}
use Rattle.init_plan.specs.Agreement.{fields_of, globals_of}
use Rattle.init_plan.specs.Views.{memory_plan_of}
use Rattle.init_plan.specs.Tables.{plan_of_tables}
use Rattle.init_plan.specs.Held.{plan_of_globals}
use Rattle.plan_text.specs.declared.plan.Plan.{Plan}
use Rattle.translate.specs.Options.{Options, images, passive_bytes}
use Rattle.translate.specs.Planned.{IsPlanned}
use Rattle.translate.specs.Initialised.{IsInitialised}
use Rattle.instance_laws.specs.Objects.{Objects, Addresses}
use Rattle.instance_laws.specs.Instances.{Recipe, SameInstance, OwnAfterTrap, instantiated}
use Rattle.instance_laws.specs.Recipes.{recipe_of_module, recipe_by_list, recipe_by_map, MayInstantiate, InstantiatesAlike}
use Rattle.instance_laws.proofs.ModuleInstance.{of_module, by_map, by_list, whole-by-map, whole-by-list}

module _ (o : Options) (bytes : List ℕ) (plan : Plan) (is : IsPlanned o bytes plan) (page : IsPowerOfTwo o.init.page_size) where
  abbrev m : Module
  m = is.meaning

  abbrev l : Lists
  l = lists_of_module m

  abbrev t : ModuleTranslation
  t = plan.translation

  abbrev f : ℕ → ℕ
  f = fields_of m

  abbrev tplan : TablePlan
  tplan = plan_of_tables t

  abbrev mplan : MemoryPlan
  mplan = memory_plan_of t

  abbrev whole : IsInitialised o.init bytes m t
  whole = is.planned.translation

  starts : option_map number_of t.start_func ≡ slice_get l.starts 0
  starts = ap (λ (x : ModuleTranslation). option_map number_of x.start_func) whole.rest.same ∙ whole.rest.translation.sections.entities.start

  memories-imported : t.module.num_imported_memories ≡ length (imported_memories m)
  memories-imported = ap (λ (x : ModuleTranslation). x.module.num_imported_memories) whole.rest.same ∙ whole.rest.translation.sections.counts.memories

  module _ (imported : List Value) (ta ma : Addresses) (tables : Objects Value) (memories : Objects ℕ) (may : MayInstantiate m imported ta ma tables memories) where
    abbrev g : List Value
    g = globals_of m imported

    values : g ≡ planned_globals f imported (plan_of_globals t)
    values = sym (whole.agrees.on_globals imported may.globals)

    abbrev defined : List ImageMemory
    defined = map image_memory_of (defined_memories m)

    ht : IsTablePlan o.init.tunables.table_lazy_init (length ta.imported) (held_tables l) (held_elements l.elements) tplan
    ht = subst (λ (n : ℕ). IsTablePlan o.init.tunables.table_lazy_init n (held_tables l) (held_elements l.elements) tplan) (sym may.each_table) whole.tables

    hm : IsMemoryPlan (images o.init) (length ma.imported) defined (held_segments m) (passive_bytes m) mplan
    hm = subst (λ (n : ℕ). IsMemoryPlan (images o.init) n defined (held_segments m) (passive_bytes m) mplan) (sym may.each_memory) whole.memories.plan

    abbrev held : Recipe
    held = of_module ta ma tables memories may.free_tables may.free_memories g f (slice_get l.starts 0) o.init.tunables.table_lazy_init (held_tables l) (held_elements l.elements) tplan
        ht (images o.init) defined (held_segments m) (passive_bytes m) mplan page hm

    abbrev listed : Recipe
    listed = by_list ta ma tables memories may.free_tables may.free_memories g f (slice_get l.starts 0) o.init.tunables.table_lazy_init (held_tables l) (held_elements l.elements) tplan
        ht (images o.init) defined (held_segments m) (passive_bytes m) mplan page hm

    abbrev mapped : Recipe
    mapped = by_map ta ma tables memories may.free_tables may.free_memories g f (slice_get l.starts 0) o.init.tunables.table_lazy_init (held_tables l) (held_elements l.elements) tplan
        ht (images o.init) defined (held_segments m) (passive_bytes m) mplan page hm

    is-module : held ≡ recipe_of_module m imported
    is-module = λ i. record {
      globals = g;
      table_sizes = minimums-held g f (defined_tables l) i;
      cells = λ k place. first-held g f (defined_tables l) k i;
      elements = element_pieces-held g f l.elements i;
      memory_sizes = sizes-module (defined_memories m) i;
      bytes = λ k place. 0;
      segments = pieces-held g f (active_segments m) i;
      start = slice_get l.starts 0;
    }

    is-listed : listed ≡ recipe_by_list f t imported
    is-listed = λ i. record {
      globals = values i;
      table_sizes = (sym ht.minimums) i;
      cells = λ k place. planned_first (values i) f (slice_get tplan.tables k) place;
      elements = map (elements_piece (values i) f) tplan.segments;
      memory_sizes = (sym hm.sizes) i;
      bytes = λ k place. 0;
      segments = map (planned_piece (offset_over (values i) f) mplan) mplan.segments;
      start = (sym starts) i;
    }

    each : length ma.imported ≡ t.module.num_imported_memories
    each = may.each_memory ∙ sym memories-imported

    is-mapped : mapped ≡ recipe_by_map f t imported
    is-mapped = λ i. record {
      globals = values i;
      table_sizes = (sym ht.minimums) i;
      cells = λ k place. planned_first (values i) f (slice_get tplan.tables k) place;
      elements = map (elements_piece (values i) f) tplan.segments;
      memory_sizes = (sym hm.sizes) i;
      bytes = λ k place. last_item (each i + k) place 0 (image_pieces mplan 0 mplan.images);
      segments = map (piece_of (offset_over (values i) f)) (kept_segments mplan);
      start = (sym starts) i;
    }

    by-list : SameInstance (λ at. ⊥) (instantiated ta ma tables memories (recipe_of_module m imported)) (instantiated ta ma tables memories (recipe_by_list f t imported))
    by-list =
        let both = whole-by-list ta ma tables memories may.free_tables may.free_memories g f (slice_get l.starts 0) o.init.tunables.table_lazy_init (held_tables l)
        (held_elements l.elements) tplan ht (images o.init) defined (held_segments m) (passive_bytes m) mplan page hm in
        subst (λ (r : Recipe). SameInstance (λ at. ⊥) (instantiated ta ma tables memories r) (instantiated ta ma tables memories (recipe_by_list f t imported))) is-module
        (subst (λ (r : Recipe). SameInstance (λ at. ⊥) (instantiated ta ma tables memories held) (instantiated ta ma tables memories r)) is-listed both)

    by-map : SameInstance (OwnAfterTrap ma.first (instantiated ta ma tables memories (recipe_of_module m imported)))
        (instantiated ta ma tables memories (recipe_of_module m imported)) (instantiated ta ma tables memories (recipe_by_map f t imported))
    by-map =
        let both = whole-by-map ta ma tables memories may.free_tables may.free_memories g f (slice_get l.starts 0) o.init.tunables.table_lazy_init (held_tables l)
        (held_elements l.elements) tplan ht (images o.init) defined (held_segments m) (passive_bytes m) mplan page hm in
        subst (λ (r : Recipe). SameInstance (OwnAfterTrap ma.first (instantiated ta ma tables memories r)) (instantiated ta ma tables memories r)
        (instantiated ta ma tables memories (recipe_by_map f t imported))) is-module
        (subst (λ (r : Recipe). SameInstance (OwnAfterTrap ma.first (instantiated ta ma tables memories held)) (instantiated ta ma tables memories held) (instantiated ta ma tables memories r))
        is-mapped both)

  pub instantiates-alike : InstantiatesAlike m t
  instantiates-alike = record { by_list = by-list; by_map = by-map }
