-- Instantiating a module and instantiating its plan.
use Rattle.std.proofs.Common.{◌≡◌, ◌∙◌, ℕ, ◌<◌, ◌≤◌, Bool, List, length, map, Option, None, Some, refl, sym, ap, subst, arith}
use Rattle.std.specs.Int.{IsPowerOfTwo}
use Rattle.std.specs.Prelude.{slice_get}
use Rattle.std.proofs.Math.Logic.{⊎_elim}
use Rattle.std.proofs.lemmas.Bool.{cases_lt, lt-leb}
use Rattle.wasm_spec.specs.Module.{Expression}
use Rattle.replay_spec.specs.Phases.{Piece, trap_of}
use Rattle.replay_spec.specs.Values.{Value, offset_over}
use Rattle.replay_spec.specs.Data.{ActiveSegment, piece_of}
use Rattle.replay_spec.specs.Elements.{ActiveElements, DefinedTable, elements_piece, first_cell}
use Rattle.replay_spec.specs.Images.{ImageOptions, ImageMemory, size_of, IsMemoryPlan}
use Rattle.replay_spec.specs.Plan.{MemoryPlan, planned_piece, kept_segments}
use Rattle.replay_spec.specs.Tables.{TablePlan, IsTablePlan, planned_first}
use Rattle.instance_laws.specs.Objects.{Objects, Addresses, AreFree, allocated, phase_over}
use Rattle.instance_laws.specs.Instances.{Recipe, Instance, SameObjects, SameInstance, OwnAfterTrap, after, with_data, end_of_data, instantiated}
use Rattle.instance_laws.proofs.TablePhases.{minimums_of, same-tables, same-element-traps}
use Rattle.instance_laws.proofs.MemoryPhases.{laid, zeros, same-by-map, traps-by-map, same-by-list, traps-by-list}

-- objects that are the same are so with exceptions
fewer : {A : Type 0} (E : ℕ → Type 0) (one other : Objects A) → SameObjects (λ at. ⊥) one other → SameObjects E one other
fewer E one other s = record { sizes = s.sizes; items = λ at place named lt. s.items at place (λ e. e) lt }

-- memories that are allocated with other bytes differ in those alone
allocated-alike : (memories : Objects ℕ) (first : ℕ) (sizes : List ℕ) (i j : ℕ → ℕ → ℕ)
    → SameObjects (λ at. first ≤ at) (allocated memories first sizes i) (allocated memories first sizes j)
allocated-alike memories first sizes i j = record {
  sizes = λ at. refl;
  items = λ at place named lt. ⊎_elim
      (λ (below : at < first). rw (lt-leb first at below) refl)
      (λ (le : first ≤ at). absurd (named le))
      (cases_lt at first);
}

-- ---- after the element segments

module _ (ta ma : Addresses) (r s : Recipe) (globals : r.globals ≡ s.globals) (start : r.start ≡ s.start) (t u : Objects Value) (tables : SameObjects (λ at. ⊥) t u)
    (m n : Objects ℕ) (memories : SameObjects (λ at. ⊥) (after ma m r.segments) (after ma n s.segments))
    (traps : trap_of (phase_over ma m r.segments) ≡ trap_of (phase_over ma n s.segments)) where
  -- where allocated memories are alike but for own ones
  pub with-data : SameObjects (λ at. ma.first ≤ at) m n → (o : Option ℕ)
      → SameInstance (OwnAfterTrap ma.first (with_data ta ma r t m o)) (with_data ta ma r t m o) (with_data ta ma s u n o)
  with-data alike None = record {
    globals = globals;
    tables = tables;
    memories = fewer (OwnAfterTrap ma.first (with_data ta ma r t m None)) (after ma m r.segments) (after ma n s.segments) memories;
    end = rw (start, traps) refl;
  }
  with-data alike (Some number) = record {
    globals = globals;
    tables = tables;
    memories = record { sizes = alike.sizes; items = λ at place named lt. alike.items at place (λ (le : ma.first ≤ at). named (tt, le)) lt };
    end = refl;
  }

  -- where they are alike
  pub with-data-alike : SameObjects (λ at. ⊥) m n → (o : Option ℕ) → SameInstance (λ at. ⊥) (with_data ta ma r t m o) (with_data ta ma s u n o)
  with-data-alike alike None = record { globals = globals; tables = tables; memories = memories; end = rw (start, traps) refl }
  with-data-alike alike (Some number) = record { globals = globals; tables = tables; memories = alike; end = refl }

-- ---- all together

module _ (ta ma : Addresses) (tables : Objects Value) (memories : Objects ℕ) (free_tables : AreFree ta tables) (free_memories : AreFree ma memories)
    (globals : List Value) (fields : ℕ → ℕ) (start : Option ℕ) (lazy : Bool) (defined : List DefinedTable) (elements : List ActiveElements) (table_plan : TablePlan)
    (ht : IsTablePlan lazy (length ta.imported) defined elements table_plan) (options : ImageOptions) (images : List ImageMemory) (active : List ActiveSegment)
    (passive : List (List ℕ)) (plan : MemoryPlan) (page : IsPowerOfTwo options.page) (hm : IsMemoryPlan options (length ma.imported) images active passive plan) where
  abbrev pub of_module : Recipe
  of_module = record {
    globals = globals;
    table_sizes = minimums_of defined;
    cells = λ k place. first_cell globals fields (slice_get defined k);
    elements = map (elements_piece globals fields) elements;
    memory_sizes = map size_of images;
    bytes = λ k place. 0;
    segments = map (piece_of (offset_over globals fields)) active;
    start = start;
  }

  -- images are in the memories already, and the kept segments are written
  abbrev pub by_map : Recipe
  by_map = record of_module {
    cells = λ k place. planned_first globals fields (slice_get table_plan.tables k) place;
    elements = map (elements_piece globals fields) table_plan.segments;
    bytes = laid ma memories free_memories globals fields options images active passive plan page hm;
    segments = map (piece_of (offset_over globals fields)) (kept_segments plan);
  }

  -- all entries are written, images too
  abbrev pub by_list : Recipe
  by_list = record of_module {
    cells = λ k place. planned_first globals fields (slice_get table_plan.tables k) place;
    elements = map (elements_piece globals fields) table_plan.segments;
    segments = map (planned_piece (offset_over globals fields) plan) plan.segments;
  }

  element-traps : trap_of (phase_over ta (allocated tables ta.first (minimums_of defined) of_module.cells) of_module.elements)
      ≡ trap_of (phase_over ta (allocated tables ta.first (minimums_of defined) by_map.cells) by_map.elements)
  element-traps = same-element-traps ta tables free_tables globals fields lazy defined elements table_plan ht

  pub whole-by-map : SameInstance (OwnAfterTrap ma.first (instantiated ta ma tables memories of_module)) (instantiated ta ma tables memories of_module) (instantiated ta ma tables memories by_map)
  whole-by-map = rw element-traps (with-data ta ma of_module by_map refl refl
      (after ta (allocated tables ta.first (minimums_of defined) of_module.cells) of_module.elements)
      (after ta (allocated tables ta.first (minimums_of defined) by_map.cells) by_map.elements)
      (same-tables ta tables free_tables globals fields lazy defined elements table_plan ht)
      (allocated memories ma.first (map size_of images) of_module.bytes) (allocated memories ma.first (map size_of images) by_map.bytes)
      (same-by-map ma memories free_memories globals fields options images active passive plan page hm)
      (traps-by-map ma memories free_memories globals fields options images active passive plan page hm)
      (allocated-alike memories ma.first (map size_of images) of_module.bytes by_map.bytes)
      (trap_of (phase_over ta (allocated tables ta.first (minimums_of defined) by_map.cells) by_map.elements)))

  pub whole-by-list : SameInstance (λ at. ⊥) (instantiated ta ma tables memories of_module) (instantiated ta ma tables memories by_list)
  whole-by-list = rw element-traps (with-data-alike ta ma of_module by_list refl refl
      (after ta (allocated tables ta.first (minimums_of defined) of_module.cells) of_module.elements)
      (after ta (allocated tables ta.first (minimums_of defined) by_map.cells) by_map.elements)
      (same-tables ta tables free_tables globals fields lazy defined elements table_plan ht)
      (allocated memories ma.first (map size_of images) of_module.bytes) (allocated memories ma.first (map size_of images) by_list.bytes)
      (same-by-list ma memories free_memories globals fields options images active passive plan page hm)
      (traps-by-list ma memories free_memories globals fields options images active passive plan page hm)
      (record { sizes = λ at. refl; items = λ at place named lt. refl })
      (trap_of (phase_over ta (allocated tables ta.first (minimums_of defined) by_map.cells) by_map.elements)))
