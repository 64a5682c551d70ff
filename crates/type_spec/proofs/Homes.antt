-- Where the groups of a list are in the joined list.
use Rattle.std.proofs.Common.{◌≡◌, ◌∙◌, ℕ, ◌+◌, ◌-◌, ◌<◌, ◌≤◌, List, [], ◌∷◌, ◌++◌, length, get_or, refl, sym, ap, arith, inl, inr, length-append}
use Rattle.std.specs.List.{flat_map}
use Rattle.std.proofs.lemmas.Bool.{cases_lt, lt-ltb, le-ltb}
use Rattle.std.proofs.lemmas.List.{get_or_append_left, get_or-append_right}
use Rattle.wasm_spec.specs.TypeData.{SubType, Group}
use Rattle.type_spec.specs.Equality.{Home, home_from, home}

-- the types of groups, joined
abbrev pub joined : List (Group ℕ ℕ) → List (SubType ℕ ℕ)
joined gs = flat_map (λ g. g) gs

abbrev pub size : List (Group ℕ ℕ) → ℕ
size gs = length (joined gs)

pub size-cons : (g : Group ℕ ℕ) (gs : List (Group ℕ ℕ)) → size (g ∷ gs) ≡ length g + size gs
size-cons g gs = length-append g (joined gs)

-- the type at a position is a member of the group
pub record Holds (g : Home) (i : ℕ) : Type 0 where
  pub from : g.start ≤ i
  pub to : i < g.start + length g.members

module _ (start : ℕ) (g : Group ℕ ℕ) (gs : List (Group ℕ ℕ)) (i : ℕ) where
  pub in_front : i < start + length g → home_from start (g ∷ gs) i ≡ record { start = start; members = g }
  in_front lt = rw (lt-ltb i (start + length g) lt) refl

  pub behind : start + length g ≤ i → home_from start (g ∷ gs) i ≡ home_from (start + length g) gs i
  behind le = rw (le-ltb i (start + length g) le) refl

-- ---- the group at a position contains it, and is within the list

pub record Within (g : Home) (start end i : ℕ) : Type 0 where
  pub low : start ≤ g.start
  pub from : g.start ≤ i
  pub to : i < g.start + length g.members
  pub high : g.start + length g.members ≤ end

from-within : (start : ℕ) (gs : List (Group ℕ ℕ)) (i : ℕ) → start ≤ i → i < start + size gs → Within (home_from start gs i) start (start + size gs) i
from-within start [] i low lt = absurd (omega arith)
from-within start (g ∷ gs) i low lt =
    elim (cases_lt i (start + length g)) [
      | inl here ↦ rw (in_front start g gs i here) (record { low = omega arith; from = low; to = here; high = omega (arith, size-cons g gs) })
      | inr later ↦
          let w = from-within (start + length g) gs i later (omega (arith, lt, size-cons g gs)) in
          rw (behind start g gs i later) (record { low = omega (arith, w.low); from = w.from; to = w.to; high = omega (arith, size-cons g gs, w.high) })
    ]

pub home-within : (gs : List (Group ℕ ℕ)) (i : ℕ) → i < size gs → Within (home gs i) 0 (size gs) i
home-within gs i lt =
    let w = from-within 0 gs i (omega arith) (omega arith) in
    record { low = w.low; from = w.from; to = w.to; high = omega (arith, w.high) }

-- ---- the members of a group have one home

from-again : (start : ℕ) (gs : List (Group ℕ ℕ)) (i j : ℕ) → start ≤ i → i < start + size gs → Holds (home_from start gs i) j
    → home_from start gs j ≡ home_from start gs i
from-again start [] i j low lt h = refl
from-again start (g ∷ gs) i j low lt h =
    elim (cases_lt i (start + length g)) [
      | inl here ↦
          let is = in_front start g gs i here in
          let held = rw is at h in
          in_front start g gs j held.to ∙ sym is
      | inr later ↦
          let is = behind start g gs i later in
          let held = rw is at h in
          let m : i < start + length g + size gs = omega (arith, lt, size-cons g gs) in
          let w = from-within (start + length g) gs i later m in
          behind start g gs j (omega (arith, w.low, held.from)) ∙ from-again (start + length g) gs i j later m held ∙ sym is
    ]

pub home-again : (gs : List (Group ℕ ℕ)) (i j : ℕ) → i < size gs → Holds (home gs i) j → home gs j ≡ home gs i
home-again gs i j lt h = from-again 0 gs i j (omega arith) (omega arith) h

-- ---- the members of a group are those of the joined list

from-type : (start : ℕ) (gs : List (Group ℕ ℕ)) (i : ℕ) (d : SubType ℕ ℕ) → start ≤ i → i < start + size gs
    → get_or (home_from start gs i).members (i - (home_from start gs i).start) d ≡ get_or (joined gs) (i - start) d
from-type start [] i d low lt = absurd (omega arith)
from-type start (g ∷ gs) i d low lt =
    elim (cases_lt i (start + length g)) [
      | inl here ↦ rw (in_front start g gs i here) (sym (get_or_append_left g (joined gs) d (i - start) (omega (arith, low, here))))
      | inr later ↦
          let place : i - start - length g ≡ i - (start + length g) = omega arith in
          rw (behind start g gs i later) (from-type (start + length g) gs i d later (omega (arith, lt, size-cons g gs))
          ∙ ap (λ k. get_or (joined gs) k d) (sym place) ∙ sym (get_or-append_right g (joined gs) (length g) (i - start) d refl (omega (arith, later))))
    ]

pub home-type : (gs : List (Group ℕ ℕ)) (i : ℕ) (d : SubType ℕ ℕ) → i < size gs
    → get_or (home gs i).members (i - (home gs i).start) d ≡ get_or (joined gs) i d
home-type gs i d lt =
    let whole : i - 0 ≡ i = omega arith in
    from-type 0 gs i d (omega arith) (omega arith) ∙ ap (λ k. get_or (joined gs) k d) whole

-- ---- one group more

from-before : (start : ℕ) (gs : List (Group ℕ ℕ)) (g : Group ℕ ℕ) (i : ℕ) → start ≤ i → i < start + size gs
    → home_from start (gs ++ g ∷ []) i ≡ home_from start gs i
from-before start [] g i low lt = absurd (omega arith)
from-before start (h ∷ gs) g i low lt =
    elim (cases_lt i (start + length h)) [
      | inl here ↦ in_front start h (gs ++ g ∷ []) i here ∙ sym (in_front start h gs i here)
      | inr later ↦ behind start h (gs ++ g ∷ []) i later ∙ from-before (start + length h) gs g i later (omega (arith, lt, size-cons h gs))
          ∙ sym (behind start h gs i later)
    ]

pub home-before : (gs : List (Group ℕ ℕ)) (g : Group ℕ ℕ) (i : ℕ) → i < size gs → home (gs ++ g ∷ []) i ≡ home gs i
home-before gs g i lt = from-before 0 gs g i (omega arith) (omega arith)

from-last : (start : ℕ) (gs : List (Group ℕ ℕ)) (g : Group ℕ ℕ) (i : ℕ) → start + size gs ≤ i → i < start + size gs + length g
    → home_from start (gs ++ g ∷ []) i ≡ record { start = start + size gs; members = g }
from-last start [] g i low lt =
    let same : start + 0 ≡ start = omega arith in
    in_front start g [] i (omega arith) ∙ ap (λ s. record { start = s; members = g }) (sym same)
from-last start (h ∷ gs) g i low lt =
    let e : start + length h + size gs ≡ start + size (h ∷ gs) = omega (arith, size-cons h gs) in
    behind start h (gs ++ g ∷ []) i (omega (arith, size-cons h gs))
    ∙ from-last (start + length h) gs g i (omega (arith, e)) (omega (arith, e)) ∙ ap (λ s. record { start = s; members = g }) e

pub home-last : (gs : List (Group ℕ ℕ)) (g : Group ℕ ℕ) (i : ℕ) → size gs ≤ i → i < size gs + length g
    → home (gs ++ g ∷ []) i ≡ record { start = size gs; members = g }
home-last gs g i low lt =
    let e : 0 + size gs ≡ size gs = omega arith in
    from-last 0 gs g i (omega arith) (omega arith) ∙ ap (λ s. record { start = s; members = g }) e

pub size-more : (gs : List (Group ℕ ℕ)) (g : Group ℕ ℕ) → size (gs ++ g ∷ []) ≡ size gs + length g
size-more [] g = omega (arith, size-cons g [])
size-more (h ∷ gs) g = omega (arith, size-cons h (gs ++ g ∷ []), size-cons h gs, size-more gs g)
