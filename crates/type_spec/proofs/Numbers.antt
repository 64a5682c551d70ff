-- Numbers that are equal exactly at equal positions of groups with equal canonical forms are equal
-- exactly for equal types.
use Rattle.std.proofs.Common.{◌≡◌, ◌↔◌, ℕ, zero, suc, ◌-◌, ◌<◌, List, arith}
use Rattle.wasm_spec.specs.TypeData.{Group}
use Rattle.type_spec.specs.Equality.{home, canonical, SameDown, SameType}
use Rattle.type_spec.proofs.Canonical.{canonical-below}
use Rattle.type_spec.proofs.Equivalence.{home-start}

-- the position of a type in its group
abbrev pub place : List (Group ℕ ℕ) → ℕ → ℕ
place gs i = i - (home gs i).start

module _ (ms ns : List (Group ℕ ℕ)) (number number' : ℕ → ℕ) (count count' : ℕ) where
  abbrev pub TellApart : Type 0
  TellApart = (i j : ℕ) → i < count → j < count'
      → (number i ≡ number' j) ↔ ((place ms i ≡ place ns j) × (canonical number (home ms i) ≡ canonical number' (home ns j)))

  exact-down : TellApart → (d i j : ℕ) → i < d → i < count → j < count' → (number i ≡ number' j) ↔ SameDown d ms ns i j
  exact-down told zero i j lt h k = absurd (omega arith)
  exact-down told (suc d) i j lt h k =
      let both = told i j h k in
      let groups = canonical-below (λ r s. SameDown d ms ns r s) number number' (home ms i) (home ns j)
      (λ r s before before'. exact-down told d r s (omega (arith, before, home-start ms i, lt)) (omega (arith, before, home-start ms i, h)) (omega (arith, before', home-start ns j, k))) in
      ((λ same. let b = both.0 same in (b.0, groups.0 b.1)), (λ same. both.1 (same.0, groups.1 same.1)))

  pub exact : TellApart → (i j : ℕ) → i < count → j < count' → (number i ≡ number' j) ↔ SameType ms ns i j
  exact told i j h k = exact-down told (suc i) i j (omega arith) h k
