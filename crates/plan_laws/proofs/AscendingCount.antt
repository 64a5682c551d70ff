-- Numbers in ascending order that are among some numbers are no more than these.
use Rattle.std.proofs.Common.{◌≡◌, ◌∙◌, ◌≤◌, ◌<◌, ◌+◌, ℕ, zero, suc, List, [], ◌∷◌, length, cond, get_or, nat_eq, refl, sym, arith, inl, inr}
use Rattle.std.specs.Prelude.{Contains}
use Rattle.std.proofs.lemmas.Bool.{cases_eq, eq-eqb, ne_eqb}

-- without the first that is a number
abbrev without : ℕ → List ℕ → List ℕ
without n [] = []
without n (k ∷ ks) = cond (nat_eq n k) ks (k ∷ without n ks)

without-head : (n k : ℕ) (ks : List ℕ) → n ≡ k → without n (k ∷ ks) ≡ ks
without-head n k ks e = rw (eq-eqb n k e) refl

without-tail : (n k : ℕ) (ks : List ℕ) → (n ≡ k → ⊥) → without n (k ∷ ks) ≡ k ∷ without n ks
without-tail n k ks other = rw (ne_eqb n k other) refl

behind-head : (n k : ℕ) (ks : List ℕ) → Contains (k ∷ ks) n → (n ≡ k → ⊥) → Contains ks n
behind-head n k ks (zero, lt, is) other = absurd (other (sym is))
behind-head n k ks (suc i, lt, is) other = (i, omega (arith, lt), is)

in-front : (n k : ℕ) (ks : List ℕ) → n ≡ k → Contains (k ∷ ks) n
in-front n k ks e = (0, omega arith, sym e)

one-before : (n k : ℕ) (ks : List ℕ) → Contains ks n → Contains (k ∷ ks) n
one-before n k ks (i, lt, is) = (suc i, omega (arith, lt), is)

without-long : (n : ℕ) (ks : List ℕ) → Contains ks n → 1 + length (without n ks) ≡ length ks
without-long n [] (i, lt, is) = absurd (omega (arith, lt))
without-long n (k ∷ ks) has = elim (cases_eq n k) [
  | inl e ↦ rw (without-head n k ks e) (omega arith)
  | inr ne ↦ rw (without-tail n k ks ne) (omega (arith, without-long n ks (behind-head n k ks has ne)))
]

without-has : (n j : ℕ) (ks : List ℕ) → (j ≡ n → ⊥) → Contains ks j → Contains (without n ks) j
without-has n j [] other (i, lt, is) = absurd (omega (arith, lt))
without-has n j (k ∷ ks) other has = elim (cases_eq n k) [
  | inl e ↦ rw (without-head n k ks e) (behind-head j k ks has (λ f. other (f ∙ sym e)))
  | inr ne ↦ rw (without-tail n k ks ne) (elim (cases_eq j k) [
    | inl f ↦ in-front j k (without n ks) f
    | inr nf ↦ one-before j k (without n ks) (without-has n j ks other (behind-head j k ks has nf))
  ])
]

-- each number is below the next
abbrev Ascend : List ℕ → Type 0
Ascend ns = (i j : ℕ) → i < j → j < length ns → get_or ns i 0 < get_or ns j 0

same-place : (j : ℕ) (ns : List ℕ) (i : ℕ) → i < length ns → get_or ns i j ≡ get_or ns i 0
same-place j [] i lt = absurd (omega (arith, lt))
same-place j (n ∷ ns) zero lt = refl
same-place j (n ∷ ns) (suc i) lt = same-place j ns i (omega (arith, lt))

above-first : (n : ℕ) (ns : List ℕ) → Ascend (n ∷ ns) → (j : ℕ) → Contains ns j → j ≡ n → ⊥
above-first n ns ascend j (i, lt, is) same =
    let above = ascend 0 (suc i) (omega arith) (omega (arith, lt)) in
    absurd (omega (arith, above, is, same, same-place j ns i lt))

pub ascending-few : (ns ks : List ℕ) → Ascend ns → ((j : ℕ) → Contains ns j → Contains ks j) → length ns ≤ length ks
ascending-few [] ks ascend among = omega arith
ascending-few (n ∷ ns) ks ascend among =
    let here = without-long n ks (among n (in-front n n ns refl)) in
    let rest = ascending-few ns (without n ks) (λ i j less lt. ascend (suc i) (suc j) (omega (arith, less)) (omega (arith, lt)))
    (λ j has. without-has n j ks (above-first n ns ascend j has) (among j (one-before j n ns has))) in
    omega (arith, here, rest)
