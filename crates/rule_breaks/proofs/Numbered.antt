-- The entry of a list that has a number.
use Rattle.std.proofs.Common.{◌≡◌, ◌-◌, ℕ, zero, suc, List, [], ◌∷◌, Some, None, refl, sym, ap, subst, ◌∙◌, arith}
use Rattle.std.specs.Prelude.{IsSomeAnd, slice_get}
use Rattle.rule_breaks.specs.Faults.{At}

-- the entry that is looked for has this number among those that remain
pub record Remaining {X : Type 0} (all left : List X) (n k : ℕ) : Type 0 where
  pub same : slice_get all n ≡ slice_get left k

pub remaining_all : {X : Type 0} (all left : List X) (n : ℕ) → left ≡ all → Remaining all left n n
remaining_all all left n at = record { same = sym (ap (λ l. slice_get l n) at) }

-- an entry that has not the number is passed
pub passed : {X : Type 0} (all left rest : List X) (x : X) (n k : ℕ) → Remaining all left n k → left ≡ x ∷ rest → ¬ (k ≡ 0)
    → Remaining all rest n (k - 1)
passed all left rest x n zero so at more = absurd (more refl)
passed all left rest x n (suc k) so at more =
    let e : k ≡ suc k - 1 = omega arith in
    record { same = so.same ∙ ap (λ l. slice_get l (suc k)) at ∙ ap (slice_get rest) e }

-- one has it
pub reached : {X : Type 0} (all left rest : List X) (x : X) (n k : ℕ) → Remaining all left n k → left ≡ x ∷ rest → k ≡ 0 → Some x ≡ slice_get all n
reached all left rest x n k so at is = sym (so.same ∙ ap (slice_get left) is ∙ ap (λ l. slice_get l 0) at)

-- none is left
pub ran_out : {X : Type 0} (all left : List X) (n k : ℕ) → Remaining all left n k → left ≡ [] → None ≡ slice_get all n
ran_out all left n k so at = sym (so.same ∙ ap (λ l. slice_get l k) at)

-- ---- what holds of an entry

pub at_given : {X : Type 0} (P : X → Type 0) (xs : List X) (n : ℕ) (x : X) → Some x ≡ slice_get xs n → At xs n P → P x
at_given P xs n x is at = subst (λ o. IsSomeAnd o P) (sym is) at

pub at_from : {X : Type 0} (P : X → Type 0) (xs : List X) (n : ℕ) (x : X) → Some x ≡ slice_get xs n → P x → At xs n P
at_from P xs n x is holds = subst (λ o. IsSomeAnd o P) is holds

pub at_none : {X : Type 0} (P : X → Type 0) (xs : List X) (n : ℕ) → None ≡ slice_get xs n → At xs n P → ⊥
at_none P xs n is at = subst (λ o. IsSomeAnd o P) (sym is) at
