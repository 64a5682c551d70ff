-- The entries of a map that are found among some names have no more bytes than these.
use Rattle.std.proofs.Common.{◌≡◌, ◌∙◌, ◌≤◌, ◌+◌, ℕ, List, [], ◌∷◌, length, cond, Option, Some, nat_eq, sum_by, refl, sym, ap, arith, inl, inr}
use Rattle.std.specs.Map.{lookup}
use Rattle.std.proofs.lemmas.Bool.{cases_eq, eq-eqb, ne_eqb}
use Rattle.std.proofs.lemmas.List.Sums.{sum_by-cons}
use Rattle.std.proofs.lemmas.Option.{none-some}
use Rattle.plan_laws.specs.Kept.{IsBelowAll, Rises}
use Rattle.plan_laws.proofs.NameBytes.{entry_bytes}

abbrev Entry : Type 0
Entry = ℕ × List ℕ

abbrev at : ℕ → List Entry → Option (List ℕ)
at n xs = lookup (λ k. nat_eq n k) xs

some-same : (v w : List ℕ) (o : Option (List ℕ)) → o ≡ Some v → o ≡ Some w → v ≡ w
some-same v w o a b = cc

-- without the first entry of a key
abbrev without : ℕ → List Entry → List Entry
without n [] = []
without n (x ∷ xs) = cond (nat_eq n x.0) xs (x ∷ without n xs)

at-head : (n : ℕ) (x : Entry) (xs : List Entry) → n ≡ x.0 → at n (x ∷ xs) ≡ Some x.1
at-head n x xs e = rw (eq-eqb n x.0 e) refl

at-tail : (n : ℕ) (x : Entry) (xs : List Entry) → (n ≡ x.0 → ⊥) → at n (x ∷ xs) ≡ at n xs
at-tail n x xs other = rw (ne_eqb n x.0 other) refl

without-head : (n : ℕ) (x : Entry) (xs : List Entry) → n ≡ x.0 → without n (x ∷ xs) ≡ xs
without-head n x xs e = rw (eq-eqb n x.0 e) refl

without-tail : (n : ℕ) (x : Entry) (xs : List Entry) → (n ≡ x.0 → ⊥) → without n (x ∷ xs) ≡ x ∷ without n xs
without-tail n x xs other = rw (ne_eqb n x.0 other) refl

without-bytes : (n : ℕ) (v : List ℕ) (xs : List Entry) → at n xs ≡ Some v → 1 + length v + sum_by entry_bytes (without n xs) ≡ sum_by entry_bytes xs
without-bytes n v [] is = absurd (none-some v is)
without-bytes n v (x ∷ xs) is = elim (cases_eq n x.0) [
  | inl e ↦ (let same : x.1 ≡ v = some-same x.1 v _ (at-head n x xs e) is in
      rw (without-head n x xs e) (omega (arith, ap length same, sum_by-cons entry_bytes x xs)))
  | inr ne ↦ (let rest = without-bytes n v xs (sym (at-tail n x xs ne) ∙ is) in
      rw (without-tail n x xs ne) (omega (arith, rest, sum_by-cons entry_bytes x xs, sum_by-cons entry_bytes x (without n xs))))
]

without-at : (n k : ℕ) (xs : List Entry) → (k ≡ n → ⊥) → at k (without n xs) ≡ at k xs
without-at n k [] other = refl
without-at n k (x ∷ xs) other = elim (cases_eq n x.0) [
  | inl e ↦ ap (at k) (without-head n x xs e) ∙ sym (at-tail k x xs (λ f. other (f ∙ sym e)))
  | inr ne ↦ ap (at k) (without-tail n x xs ne) ∙ elim (cases_eq k x.0) [
    | inl f ↦ at-head k x (without n xs) f ∙ sym (at-head k x xs f)
    | inr nf ↦ at-tail k x (without n xs) nf ∙ without-at n k xs other ∙ sym (at-tail k x xs nf)
  ]
]

-- below all keys nothing is found
not-below : (n k : ℕ) (v : List ℕ) (xs : List Entry) → n ≤ k → IsBelowAll k xs → at n xs ≡ Some v → ⊥
not-below n k v [] le above is = none-some v is
not-below n k v (x ∷ xs) le above is = not-below n k v xs le above.1 (sym (at-tail n x xs (λ e. absurd (omega (arith, e, le, above.0)))) ∙ is)

pub found-few : (es names : List Entry) → Rises es → ((n : ℕ) (v : List ℕ) → at n es ≡ Some v → at n names ≡ Some v) → sum_by entry_bytes es ≤ sum_by entry_bytes names
found-few [] names rise found = omega arith
found-few (e ∷ es) names rise found =
    let here = without-bytes e.0 e.1 names (found e.0 e.1 (at-head e.0 e es refl)) in
    let rest = found-few es (without e.0 names) rise.1 (λ n v is.
    let other : n ≡ e.0 → ⊥ = λ same. not-below n e.0 v es (omega (arith, same)) rise.0 is in
    without-at e.0 n names other ∙ found n v (at-tail n e es other ∙ is)) in
    omega (arith, here, rest, sum_by-cons entry_bytes e es)
