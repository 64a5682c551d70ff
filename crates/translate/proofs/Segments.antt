-- The passive segments of a list of segments, and where each is found.
use Rattle.std.proofs.Common.{◌≡◌, ◌+◌, ℕ, zero, suc, List, [], ◌∷◌, ◌++◌, map, Option, Some, None, refl, sym, ◌∙◌, arith}
use Rattle.std.specs.Prelude.{All, Contains, slice_get}
use Rattle.std.specs.Option.{option_and_then}
use Rattle.std.proofs.lemmas.List.Elements.{All-nil, All-cons, All-weaker}
use Rattle.wasm_spec.specs.Module.{DataKind, Passive, Active, Segment}
use Rattle.replay_spec.specs.Plan.{MemoryPlan}
use Rattle.init_plan.specs.Views.{FindsInOrder}
use Rattle.module_sections.specs.Initialisers.{passive_data_in, passive_data_from}
use Rattle.translate.specs.Also.{Finds, bytes_if_passive, passive_bytes_of}

-- ---- where passive segments are found

-- of those that are found in order, each is found with its bytes
found_at : (plan : MemoryPlan) (start k i n : ℕ) (ss : List Segment) (s : Segment) → n ≡ k + i → FindsInOrder plan.runtime plan.passive start (passive_data_from k ss)
    → slice_get ss i ≡ Some s → s.kind ≡ Passive → Finds plan.runtime (plan.passive n) (Some s.bytes)
found_at plan start k i n [] s at found e is = absurd cc
found_at plan start k zero n (t ∷ ss) s at found e is =
    let same : t ≡ s = cc in
    let here = rw (same, is) at found in
    let first : n ≡ k = omega arith in
    rw (first, here.0) here.1
found_at plan start k (suc i) n (t ∷ ss) s at found e is = by_kind t.kind found (λ start. found_at plan start (k + 1) i n ss s (omega arith)) where
  by_kind : (kind : DataKind) → FindsInOrder plan.runtime plan.passive start (passive_data_in kind k t.bytes ++ passive_data_from (k + 1) ss)
      → ((start : ℕ) → FindsInOrder plan.runtime plan.passive start (passive_data_from (k + 1) ss) → slice_get ss i ≡ Some s → s.kind ≡ Passive
      → Finds plan.runtime (plan.passive n) (Some s.bytes)) → Finds plan.runtime (plan.passive n) (Some s.bytes)
  by_kind Passive found later = later (start + 1) found.2 e is
  by_kind (Active memory offset) found later = later start found e is

-- ---- what is found

abbrev IsPassive : Option Segment → Type 0
IsPassive None = ⊥
IsPassive (Some s) = s.kind ≡ Passive

abbrev AtPassive : ℕ → List Segment → ℕ → Type 0
AtPassive k ss n = (j : ℕ) × (n ≡ k + j) × IsPassive (slice_get ss j)

-- each index in the list is that of a passive segment
passive_indices : (k : ℕ) (ss : List Segment) → All (AtPassive k ss) (map (λ p. p.0) (passive_data_from k ss))
passive_indices k [] = All-nil (AtPassive k [])
passive_indices k (t ∷ ss) = by_kind t.kind refl (All-weaker (AtPassive (k + 1) ss) (AtPassive k (t ∷ ss)) (λ n h. (suc h.0, omega (arith, h.1), h.2))
    (map (λ p. p.0) (passive_data_from (k + 1) ss)) (passive_indices (k + 1) ss)) where
      by_kind : (kind : DataKind) → t.kind ≡ kind → All (AtPassive k (t ∷ ss)) (map (λ p. p.0) (passive_data_from (k + 1) ss))
          → All (AtPassive k (t ∷ ss)) (map (λ p. p.0) (passive_data_in kind k t.bytes ++ passive_data_from (k + 1) ss))
      by_kind Passive is later = All-cons (AtPassive k (t ∷ ss)) k (map (λ p. p.0) (passive_data_from (k + 1) ss)) (0, omega arith, is) later
      by_kind (Active memory offset) is later = later

not_contained : (i : ℕ) (ss : List Segment) → (IsPassive (slice_get ss i) → ⊥) → ¬ Contains (map (λ p. p.0) (passive_data_from 0 ss)) i
not_contained i ss other c =
    let there = passive_indices 0 ss c.0 i c.1 in
    let same : there.0 ≡ i = omega (arith, there.1, c.2) in
    other (rw same at there.2)

-- a data segment is found where it is passive, and not otherwise
pub finds : (plan : MemoryPlan) (ss : List Segment) (start : ℕ) → FindsInOrder plan.runtime plan.passive start (passive_data_from 0 ss)
    → ((index : ℕ) → ¬ Contains (map (λ p. p.0) (passive_data_from 0 ss)) index → plan.passive index ≡ None)
    → (index : ℕ) (o : Option Segment) → slice_get ss index ≡ o → Finds plan.runtime (plan.passive index) (option_and_then passive_bytes_of o)
finds plan ss start found others index None e = rw (others index (not_contained index ss (rw e (λ h. h)))) tt
finds plan ss start found others index (Some s) e = by_kind s.kind refl where
  by_kind : (kind : DataKind) → s.kind ≡ kind → Finds plan.runtime (plan.passive index) (bytes_if_passive s.kind s.bytes)
  by_kind Passive is = rw is (found_at plan start 0 index index ss s (omega arith) found e is)
  by_kind (Active memory offset) is = rw (
    is,
    others index (not_contained index ss (rw e (λ (h : s.kind ≡ Passive).
        let k : Active memory offset ≡ Passive = sym is ∙ h in absurd cc))),
  ) tt
