-- Phases over objects at addresses, and over indices.
use Rattle.std.proofs.lemmas.Grind.{common_steps}
use Rattle.std.proofs.Common.{◌≡◌, ◌∙◌, ℕ, suc, zero, ◌+◌, ◌-◌, ◌<◌, ◌≤◌, ◌⊎◌, Bool, true, false, List, [], ◌∷◌, ◌++◌, length, get_or, map, All, Option, None, Some, refl, ap, sym, arith}
use Rattle.std.specs.Prelude.{slice_get, slice_index, unwrap_or, nat_le, nat_lt, ◌==◌, ◌&&◌, if◌then◌else◌}
use Rattle.std.proofs.Math.Logic.{⊎_elim}
use Rattle.std.proofs.lemmas.Bool.{cases_lt, cases_eq, cases_order, cases_Bool, le-leb, lt-leb, eq-eqb, ne_eqb, lt-ltb, le-ltb}
use Rattle.std.proofs.lemmas.List.{length-map, get_or_append_left, get_or-append_right, length-append, map-append, get_or-map}
use Rattle.std.proofs.lemmas.List.Elements.{All-get_or}
use Rattle.replay_spec.specs.Phases.{Piece, Phase, fits, item_at, last_item, before_trap, trap, trap_of, content_of}
use Rattle.instance_laws.specs.Objects.{Objects, Addresses, address, AreFree, allocated, addressed, phase_over}

-- the sizes of an instance's objects, by index
abbrev pub index_sizes : {A : Type 0} → Addresses → Objects A → List ℕ → ℕ → ℕ
index_sizes a objects sizes i = slice_index (map objects.sizes a.imported ++ sizes) i

address-imported : (a : Addresses) (i : ℕ) → i < length a.imported → address a i ≡ slice_index a.imported i
address-imported a i lt = let e = lt-ltb i (length a.imported) lt in rw e refl

address-own : (a : Addresses) (i : ℕ) → length a.imported ≤ i → address a i ≡ a.first + (i - length a.imported)
address-own a i le = let e = le-ltb i (length a.imported) le in rw e refl

module _ {A : Type 0} (a : Addresses) (objects : Objects A) (free : AreFree a objects) (sizes : List ℕ) (initial : ℕ → ℕ → A) where
  imported-below : (i : ℕ) → i < length a.imported → slice_index a.imported i < a.first
  imported-below i lt = All-get_or (λ at. at < a.first) a.imported i 0 lt free.imported

  size-imported : (i : ℕ) → i < length a.imported → index_sizes a objects sizes i ≡ objects.sizes (slice_index a.imported i)
  size-imported i lt =
      get_or_append_left (map objects.sizes a.imported) sizes 0 i (let n = length-map a.imported objects.sizes in omega (arith, n))
      ∙ get_or-map objects.sizes a.imported i 0 0 lt

  pub size-own : (i : ℕ) → length a.imported ≤ i → index_sizes a objects sizes i ≡ slice_index sizes (i - length a.imported)
  size-own i le = get_or-append_right (map objects.sizes a.imported) sizes (length a.imported) i 0 (length-map a.imported objects.sizes) le

  same-size : (i : ℕ) → (allocated objects a.first sizes initial).sizes (address a i) ≡ index_sizes a objects sizes i
  same-size i = ⊎_elim
      (λ (lt : i < length a.imported). rw (address-imported a i lt, lt-leb a.first (slice_index a.imported i) (imported-below i lt)) (sym (size-imported i lt)))
      (λ (le : length a.imported ≤ i). rw (address-own a i le, le-leb a.first (a.first + (i - length a.imported)) (omega arith), (let z : a.first + (i - length a.imported) - a.first ≡ i - length a.imported = omega arith in z)) (sym (size-own i le)))
      (cases_lt i (length a.imported))

  -- a piece fits an object exactly where it fits the object with its index
  same-fit : (p : Piece A) → fits (allocated objects a.first sizes initial).sizes (addressed a p) ≡ fits (index_sizes a objects sizes) p
  same-fit p = ap (λ n. nat_le (p.offset + length p.items) n) (same-size p.object)

  pub same-trap : (ps : List (Piece A)) → trap (allocated objects a.first sizes initial).sizes (map (addressed a) ps) ≡ trap (index_sizes a objects sizes) ps
  same-trap [] = refl
  same-trap (p ∷ ps) = rw (same-fit p, same-trap ps, length-map ps (addressed a)) refl

  pub same-before : (ps : List (Piece A))
      → before_trap (allocated objects a.first sizes initial).sizes (map (addressed a) ps) ≡ map (addressed a) (before_trap (index_sizes a objects sizes) ps)
  same-before [] = refl
  same-before (p ∷ ps) = ⊎_elim
      (λ (e : fits (index_sizes a objects sizes) p ≡ true). rw (same-fit p, e, same-before ps) refl)
      (λ (e : fits (index_sizes a objects sizes) p ≡ false). rw (same-fit p, e) refl)
      (cases_Bool (fits (index_sizes a objects sizes) p))

  -- an own object is named by its own index alone
  own-index : (k : ℕ) (i : ℕ) → (address a i == a.first + k) ≡ (i == length a.imported + k)
  own-index k i = ⊎_elim
      (λ (lt : i < length a.imported).
      let below = imported-below i lt in
      rw (
        address-imported a i lt,
        ne_eqb (slice_index a.imported i) (a.first + k) (λ (e : slice_index a.imported i ≡ a.first + k). omega arith),
        ne_eqb i (length a.imported + k) (λ (e : i ≡ length a.imported + k). omega arith),
      ) refl)
      (λ (le : length a.imported ≤ i). rw (address-own a i le) (⊎_elim
      (λ (e : i ≡ length a.imported + k). eq-eqb (a.first + (i - length a.imported)) (a.first + k) (omega arith) ∙ sym (eq-eqb i (length a.imported + k) e))
      (λ (ne : i ≡ length a.imported + k → ⊥). ne_eqb (a.first + (i - length a.imported)) (a.first + k) (λ (e : a.first + (i - length a.imported) ≡ a.first + k). ne (omega arith)) ∙ sym (ne_eqb i (length a.imported + k) ne))
      (cases_eq i (length a.imported + k))))
      (cases_lt i (length a.imported))

  own-item : (k place : ℕ) (p : Piece A) → item_at (a.first + k) place (addressed a p) ≡ item_at (length a.imported + k) place p
  own-item k place p = rw (own-index k p.object) refl

  pub own-last : (k place : ℕ) (d : A) (ps : List (Piece A)) → last_item (a.first + k) place d (map (addressed a) ps) ≡ last_item (length a.imported + k) place d ps
  own-last k place d [] = refl
  own-last k place d (p ∷ ps) =
      own-last k place (unwrap_or (item_at (a.first + k) place (addressed a p)) d) ps
      ∙ ap (λ (o : Option A). last_item (length a.imported + k) place (unwrap_or o d) ps) (own-item k place p)

  -- what is at a position of an own object after a phase
  pub own-content : (ps : List (Piece A)) (k place : ℕ) → content_of (phase_over a (allocated objects a.first sizes initial) ps) (a.first + k) place
      ≡ last_item (length a.imported + k) place (initial k place) (before_trap (index_sizes a objects sizes) ps)
  own-content ps k place =
      rw (le-leb a.first (a.first + k) (omega arith), (let z : a.first + k - a.first ≡ k = omega arith in z), same-before ps)
      (own-last k place (initial k place) (before_trap (index_sizes a objects sizes) ps))

  -- and of an object that was there before
  pub other-content : (ps : List (Piece A)) (at place : ℕ) → at < a.first → content_of (phase_over a (allocated objects a.first sizes initial) ps) at place
      ≡ last_item at place (objects.items at place) (map (addressed a) (before_trap (index_sizes a objects sizes) ps))
  other-content ps at place lt = rw (lt-leb a.first at lt, same-before ps) refl

-- pieces that are written to own objects alone
abbrev pub OnOwn : {A : Type 0} → ℕ → List (Piece A) → Type 0
OnOwn imports [] = Unit {0}
OnOwn imports (p ∷ ps) = (imports ≤ p.object) × OnOwn imports ps

pub before-own : {A : Type 0} (imports : ℕ) (sizes : ℕ → ℕ) (ps : List (Piece A)) → OnOwn imports ps → OnOwn imports (before_trap sizes ps)
before-own imports sizes [] h = tt
before-own imports sizes (p ∷ ps) h = ⊎_elim
    (λ (e : fits sizes p ≡ true). rw e (h.0, before-own imports sizes ps h.1))
    (λ (e : fits sizes p ≡ false). rw e tt)
    (cases_Bool (fits sizes p))

-- they leave all other objects as they are
pub own-leaves : {A : Type 0} (a : Addresses) (ps : List (Piece A)) → OnOwn (length a.imported) ps → (at place : ℕ) (d : A) → at < a.first
    → last_item at place d (map (addressed a) ps) ≡ d
own-leaves a [] h at place d lt = refl
own-leaves a (p ∷ ps) h at place d lt =
    let own = h.0 in
    let other : (address a p.object == at) ≡ false = rw (address-own a p.object own) (ne_eqb (a.first + (p.object - length a.imported)) at (λ (e : a.first + (p.object - length a.imported) ≡ at). omega arith)) in
    let none : item_at at place (addressed a p) ≡ None = rw other refl in
    ap (λ (o : Option _). last_item at place (unwrap_or o d) (map (addressed a) ps)) none ∙ own-leaves a ps h.1 at place d lt
