-- The element phases of a module and of its plan, over tables at addresses.
use Rattle.std.proofs.Common.{◌≡◌, ◌∙◌, ℕ, ◌+◌, ◌-◌, ◌<◌, ◌≤◌, Bool, List, [], ◌∷◌, ◌++◌, length, map, All, refl, sym, subst, ap, arith}
use Rattle.std.specs.Prelude.{false, nat_lt, replicate, slice_get, slice_index}
use Rattle.std.proofs.lemmas.Bool.{le-ltb}
use Rattle.std.proofs.lemmas.List.{length-map, length-replicate, map-append}
use Rattle.std.proofs.lemmas.List.Elements.{All-head, All-tail}
use Rattle.replay_spec.specs.Phases.{Piece, Phase, SamePhase, last_item, before_trap, trap, trap_of, content_of}
use Rattle.replay_spec.specs.Values.{Value, Ref, Null}
use Rattle.replay_spec.specs.Elements.{ActiveElements, DefinedTable, elements_piece, first_cell, table_sizes, table_base, elements_phase}
use Rattle.replay_spec.specs.Tables.{MayBeTaken, TablePlan, IsTablePlan, PlannedTable, planned_first, planned_elements_phase}
use Rattle.replay_spec.proofs.Replay.{AllFit, before-fit, last-append}
use Rattle.replay_spec.proofs.TablesJoined.{fit-taken, tables-agree}
use Rattle.instance_laws.specs.Objects.{Objects, Addresses, AreFree, allocated, addressed, phase_over}
use Rattle.instance_laws.specs.Instances.{after, SameObjects}
use Rattle.instance_laws.proofs.Addressed.{index_sizes, OnOwn, before-own, own-leaves}
use Rattle.instance_laws.proofs.Alike.{IsByIndex, LeaveAlike, same-traps, same-objects}

-- contents as long as the objects at some addresses
abbrev pub filled : {A : Type 0} → Objects A → A → List ℕ → List (List A)
filled objects d ats = map (λ at. replicate (objects.sizes at) d) ats

pub lengths-filled : {A : Type 0} (objects : Objects A) (d : A) (ats : List ℕ) → map length (filled objects d ats) ≡ map objects.sizes ats
lengths-filled objects d [] = refl
lengths-filled objects d (at ∷ ats) = rw (length-replicate (objects.sizes at) d, lengths-filled objects d ats) refl

abbrev pub minimums_of : List DefinedTable → List ℕ
minimums_of tables = map (λ t. t.minimum) tables

module _ (a : Addresses) (objects : Objects Value) (free : AreFree a objects) (globals : List Value) (fields : ℕ → ℕ) (lazy : Bool)
    (tables : List DefinedTable) (active : List ActiveElements) (plan : TablePlan) (h : IsTablePlan lazy (length a.imported) tables active plan) where
  abbrev contents : List (List Value)
  contents = filled objects (Ref Null) a.imported

  count : length contents ≡ length a.imported
  count = length-map a.imported (λ at. replicate (objects.sizes at) (Ref Null))

  abbrev of_module : List (Piece Value)
  of_module = map (elements_piece globals fields) active

  abbrev of_plan : List (Piece Value)
  of_plan = map (elements_piece globals fields) plan.segments

  table-sizes : (minimums : List ℕ) → minimums ≡ minimums_of tables → table_sizes contents minimums ≡ index_sizes a objects (minimums_of tables)
  table-sizes minimums e = ap {B = ℕ → ℕ} (λ (ns : List ℕ) (i : ℕ). slice_index (map length contents ++ ns) i) e
      ∙ ap {B = ℕ → ℕ} (λ (ns : List ℕ) (i : ℕ). slice_index (ns ++ minimums_of tables) i) (lengths-filled objects (Ref Null) a.imported)

  -- a phase over tables, of which the defined ones hold such cells at first
  by-index : (minimums : List ℕ) → minimums ≡ minimums_of tables → (initial : ℕ → ℕ → Value) (ps : List (Piece Value))
      → IsByIndex a objects (minimums_of tables) initial ps (record { sizes = table_sizes contents minimums; base = table_base contents initial; pieces = ps })
  by-index minimums e initial ps =
      let sizes = table-sizes minimums e in
      record {
        same_sizes = λ i. ap (λ (s : ℕ → ℕ). s i) sizes;
        traps = ap (λ (s : ℕ → ℕ). trap s ps) sizes;
        base = λ k place.
            let past : nat_lt (length a.imported + k) (length a.imported) ≡ false = le-ltb (length a.imported + k) (length a.imported) (omega arith) in
            let back : length a.imported + k - length a.imported ≡ k = omega arith in
            ap (λ (s : ℕ → ℕ). last_item (length a.imported + k) place (table_base contents initial (length a.imported + k) place) (before_trap s ps)) sizes
            ∙ ap (λ (d : Value). last_item (length a.imported + k) place d (before_trap (index_sizes a objects (minimums_of tables)) ps)) (rw (count, past, back) refl);
      }

  module-by-index : IsByIndex a objects (minimums_of tables) (λ k place. first_cell globals fields (slice_get tables k)) of_module (elements_phase globals fields contents tables active)
  module-by-index = by-index (minimums_of tables) refl (λ k place. first_cell globals fields (slice_get tables k)) of_module

  plan-by-index : IsByIndex a objects (minimums_of tables) (λ k place. planned_first globals fields (slice_get plan.tables k) place) of_plan (planned_elements_phase globals fields contents plan)
  plan-by-index = by-index (map (λ (t : PlannedTable). t.minimum) plan.tables) h.minimums (λ k place. planned_first globals fields (slice_get plan.tables k) place) of_plan

  own-taken : (taken : List ActiveElements) → All (MayBeTaken lazy (length a.imported) tables) taken → OnOwn (length a.imported) (map (elements_piece globals fields) taken)
  own-taken [] all = tt
  own-taken (s ∷ ss) all = ((All-head (MayBeTaken lazy (length a.imported) tables) s ss all).defined, own-taken ss (All-tail (MayBeTaken lazy (length a.imported) tables) s ss all))

  leave-alike : LeaveAlike a objects (minimums_of tables) of_module of_plan
  leave-alike at place lt =
      let taken = map (elements_piece globals fields) h.taken in
      let sizes = index_sizes a objects (minimums_of tables) in
      let fit = subst (λ (s : ℕ → ℕ). AllFit s taken) (table-sizes (minimums_of tables) refl)
      (fit-taken globals fields lazy (length a.imported) tables contents count h.taken h.prefix.takes) in
      rw (
        h.prefix.parts,
        map-append (elements_piece globals fields) h.taken plan.segments,
        before-fit sizes taken of_plan fit,
        map-append (addressed a) taken (before_trap sizes of_plan),
        last-append at place (objects.items at place) (map (addressed a) taken) (map (addressed a) (before_trap sizes of_plan)),
        own-leaves a taken (own-taken h.taken h.prefix.takes) at place (objects.items at place) lt,
      ) refl

  abbrev tables_of_module : Objects Value
  tables_of_module = allocated objects a.first (minimums_of tables) (λ k place. first_cell globals fields (slice_get tables k))

  abbrev tables_of_plan : Objects Value
  tables_of_plan = allocated objects a.first (minimums_of tables) (λ k place. planned_first globals fields (slice_get plan.tables k) place)

  pub same-tables : SameObjects (λ at. ⊥) (after a tables_of_module of_module) (after a tables_of_plan of_plan)
  same-tables = same-objects a objects free (minimums_of tables) (λ k place. first_cell globals fields (slice_get tables k)) (λ k place. planned_first globals fields (slice_get plan.tables k) place)
      of_module of_plan (elements_phase globals fields contents tables active) (planned_elements_phase globals fields contents plan) module-by-index plan-by-index
      (tables-agree lazy (length a.imported) tables active plan h globals fields contents count) leave-alike

  pub same-element-traps : trap_of (phase_over a tables_of_module of_module) ≡ trap_of (phase_over a tables_of_plan of_plan)
  same-element-traps = same-traps a objects free (minimums_of tables) (λ k place. first_cell globals fields (slice_get tables k)) (λ k place. planned_first globals fields (slice_get plan.tables k) place)
      of_module of_plan (elements_phase globals fields contents tables active) (planned_elements_phase globals fields contents plan) module-by-index plan-by-index
      (tables-agree lazy (length a.imported) tables active plan h globals fields contents count)
