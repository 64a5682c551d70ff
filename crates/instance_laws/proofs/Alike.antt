-- Two phases that leave the same over indices leave the same over objects at addresses.
use Rattle.std.proofs.Common.{◌≡◌, ◌∙◌, ℕ, ◌+◌, ◌-◌, ◌<◌, ◌≤◌, List, map, length, refl, sym, subst, ap, arith}
use Rattle.std.proofs.Math.Logic.{⊎_elim}
use Rattle.std.proofs.lemmas.Bool.{cases_lt, le-leb}
use Rattle.std.specs.Prelude.{slice_index}
use Rattle.replay_spec.specs.Phases.{Piece, Phase, SamePhase, last_item, before_trap, trap, trap_of, content_of}
use Rattle.instance_laws.specs.Objects.{Objects, Addresses, AreFree, allocated, addressed, phase_over}
use Rattle.instance_laws.specs.Instances.{after, SameObjects}
use Rattle.instance_laws.proofs.Addressed.{index_sizes, size-own, same-trap, own-content, other-content}

-- a phase over indices: its sizes are those of an instance's objects, and own ones hold these items
-- at first
pub record IsByIndex {A : Type 0} (a : Addresses) (objects : Objects A) (sizes : List ℕ) (initial : ℕ → ℕ → A) (ps : List (Piece A)) (phase : Phase A) : Type 0 where
  pub same_sizes : (i : ℕ) → phase.sizes i ≡ index_sizes a objects sizes i
  pub traps : trap_of phase ≡ trap (index_sizes a objects sizes) ps
  pub base : (k place : ℕ) → content_of phase (length a.imported + k) place
      ≡ last_item (length a.imported + k) place (initial k place) (before_trap (index_sizes a objects sizes) ps)

-- two lists of pieces leave the same in objects that were there before
abbrev pub LeaveAlike : {A : Type 0} → Addresses → Objects A → List ℕ → List (Piece A) → List (Piece A) → Type 0
LeaveAlike a objects sizes ps qs = (at place : ℕ) → at < a.first
    → last_item at place (objects.items at place) (map (addressed a) (before_trap (index_sizes a objects sizes) ps))
    ≡ last_item at place (objects.items at place) (map (addressed a) (before_trap (index_sizes a objects sizes) qs))

module _ {A : Type 0} (a : Addresses) (objects : Objects A) (free : AreFree a objects) (sizes : List ℕ) (i j : ℕ → ℕ → A) (ps qs : List (Piece A))
    (one other : Phase A) (is : IsByIndex a objects sizes i ps one) (also : IsByIndex a objects sizes j qs other) (same : SamePhase one other) where
  pub same-traps : trap_of (phase_over a (allocated objects a.first sizes i) ps) ≡ trap_of (phase_over a (allocated objects a.first sizes j) qs)
  same-traps = same-trap a objects free sizes i ps ∙ sym is.traps ∙ same.trap ∙ also.traps ∙ sym (same-trap a objects free sizes j qs)

  same-own : (k place : ℕ) → place < slice_index sizes k
      → content_of (phase_over a (allocated objects a.first sizes i) ps) (a.first + k) place ≡ content_of (phase_over a (allocated objects a.first sizes j) qs) (a.first + k) place
  same-own k place lt =
      let size : one.sizes (length a.imported + k) ≡ slice_index sizes k =
      is.same_sizes (length a.imported + k) ∙ size-own a objects free sizes i (length a.imported + k) (omega arith)
      ∙ ap (slice_index sizes) (let z : length a.imported + k - length a.imported ≡ k = omega arith in z) in
      own-content a objects free sizes i ps k place ∙ sym (is.base k place)
      ∙ same.places (length a.imported + k) place (omega (arith, size))
      ∙ also.base k place ∙ sym (own-content a objects free sizes j qs k place)

  pub same-objects : LeaveAlike a objects sizes ps qs
      → SameObjects (λ at. ⊥) (after a (allocated objects a.first sizes i) ps) (after a (allocated objects a.first sizes j) qs)
  same-objects alike = record {
    sizes = λ at. refl;
    items = λ at place named lt. ⊎_elim
        (λ (below : at < a.first). other-content a objects free sizes i ps at place below ∙ alike at place below ∙ sym (other-content a objects free sizes j qs at place below))
        (λ (le : a.first ≤ at).
        let back : a.first + (at - a.first) ≡ at = omega arith in
        let within : place < slice_index sizes (at - a.first) = rw (le-leb a.first at le) at lt in
        subst (λ (n : ℕ). content_of (phase_over a (allocated objects a.first sizes i) ps) n place ≡ content_of (phase_over a (allocated objects a.first sizes j) qs) n place)
        back (same-own (at - a.first) place within))
        (cases_lt at a.first);
  }
