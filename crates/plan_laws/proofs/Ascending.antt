-- Lists in ascending order are told by what they contain: numbers by their members, and entries of
-- a map by what is found at each key.
use Rattle.std.proofs.Common.{◌≡◌, ◌∙◌, ℕ, zero, suc, ◌<◌, ◌≤◌, List, [], ◌∷◌, length, map, get_or, Option, None, Some, nat_eq, refl, sym, ap, arith, inl, inr}
use Rattle.std.specs.Prelude.{◌⊎◌, Contains}
use Rattle.std.specs.Map.{lookup}
use Rattle.std.proofs.lemmas.Bool.{cases_order, cases_eq, eq-eqb, ne_eqb}
use Rattle.std.proofs.lemmas.Option.{none-some}
use Rattle.module_sections.specs.Escapes.{Ascend, AreSignatures}
use Rattle.plan_laws.specs.Kept.{IsBelowAll, Rises}
use Rattle.plan_laws.proofs.Tables.{some-same}

-- ---- entries

module _ {V : Type 0} where
  abbrev at : ℕ → List (ℕ × V) → Option V
  at n xs = lookup (λ k. nat_eq n k) xs

  at-head : (x : ℕ × V) (xs : List (ℕ × V)) → at x.0 (x ∷ xs) ≡ Some x.1
  at-head x xs = rw (eq-eqb x.0 x.0 refl) refl

  at-tail : (n : ℕ) (x : ℕ × V) (xs : List (ℕ × V)) → (n ≡ x.0 → ⊥) → at n (x ∷ xs) ≡ at n xs
  at-tail n x xs other = rw (ne_eqb n x.0 other) refl

  above-none : (n k : ℕ) (xs : List (ℕ × V)) → n ≤ k → IsBelowAll k xs → at n xs ≡ None
  above-none n k [] le above = refl
  above-none n k (x ∷ xs) le above = at-tail n x xs (λ e. absurd (omega (arith, e, le, above.0))) ∙ above-none n k xs le above.1

  some-none : (v : V) (o p : Option V) → o ≡ Some v → p ≡ None → o ≡ p → ⊥
  some-none v o p a b c = none-some v (sym b ∙ sym c ∙ a)

  -- a first key that is below all others is found on one side alone
  first-low : (x : ℕ × V) (xs ys : List (ℕ × V)) (k : ℕ) → x.0 < k → IsBelowAll x.0 ys → at x.0 (x ∷ xs) ≡ at x.0 ys → ⊥
  first-low x xs ys k lt above same = some-none x.1 _ _ (at-head x xs) (above-none x.0 x.0 ys (omega arith) above) same

  above-lower : (n k : ℕ) (xs : List (ℕ × V)) → n ≤ k → IsBelowAll k xs → IsBelowAll n xs
  above-lower n k [] le above = tt
  above-lower n k (x ∷ xs) le above = (omega (arith, le, above.0), above-lower n k xs le above.1)

  same-rest : (x y : ℕ × V) (xs ys : List (ℕ × V)) → x.0 ≡ y.0 → IsBelowAll x.0 xs → IsBelowAll y.0 ys → ((n : ℕ) → at n (x ∷ xs) ≡ at n (y ∷ ys))
      → (n : ℕ) → at n xs ≡ at n ys
  same-rest x y xs ys key a b same n = elim (cases_eq n x.0) [
    | inl e ↦ above-none n x.0 xs (omega (arith, e)) a ∙ sym (above-none n y.0 ys (omega (arith, e, key)) b)
    | inr ne ↦ sym (at-tail n x xs ne) ∙ same n ∙ at-tail n y ys (λ e. ne (e ∙ sym key))
  ]

  pub same-pairs : (xs ys : List (ℕ × V)) → Rises xs → Rises ys → ((n : ℕ) → at n xs ≡ at n ys) → xs ≡ ys
  same-pairs [] [] a b same = refl
  same-pairs [] (y ∷ ys) a b same = absurd (some-none y.1 _ _ (at-head y ys) refl (sym (same y.0)))
  same-pairs (x ∷ xs) [] a b same = absurd (some-none x.1 _ _ (at-head x xs) refl (same x.0))
  same-pairs (x ∷ xs) (y ∷ ys) a b same = elim (cases_order x.0 y.0) [
    | inl key ↦ (let value : x.1 ≡ y.1 = some-same x.1 y.1 (sym (at-head x xs) ∙ same x.0 ∙ ap (λ (n : ℕ). at n (y ∷ ys)) key ∙ at-head y ys) in
        let rest = same-pairs xs ys a.1 b.1 (same-rest x y xs ys key a.0 b.0 same) in
        λ i. (key i, value i) ∷ rest i)
    | inr (inl lt) ↦ absurd (first-low x xs (y ∷ ys) y.0 lt (lt, above-lower x.0 y.0 ys (omega arith) b.0) (same x.0))
    | inr (inr gt) ↦ absurd (first-low y ys (x ∷ xs) x.0 gt (gt, above-lower y.0 x.0 xs (omega arith) a.0) (sym (same y.0)))
  ]

-- ---- numbers

-- as entries without values
abbrev flags : List ℕ → List (ℕ × Unit {0})
flags ns = map (λ n. (n, tt)) ns

flags-above : (n : ℕ) (ns : List ℕ) → ((j : ℕ) → j < length ns → n < get_or ns j 0) → IsBelowAll n (flags ns)
flags-above n [] below = tt
flags-above n (k ∷ ks) below = (below 0 (omega arith), flags-above n ks (λ j lt. below (suc j) (omega arith)))

flags-rise : (ns : List ℕ) → Ascend ns → Rises (flags ns)
flags-rise [] ascend = tt
flags-rise (n ∷ ns) ascend = (
  flags-above n ns (λ j lt. ascend 0 (suc j) (omega arith) (omega arith)),
  flags-rise ns (λ i j less lt. ascend (suc i) (suc j) (omega arith) (omega arith)),
)

found-flag : (ns : List ℕ) (n : ℕ) (i : ℕ) → i < length ns → get_or ns i n ≡ n → at n (flags ns) ≡ Some tt
found-flag [] n i lt is = absurd (omega arith)
found-flag (k ∷ ks) n zero lt is = rw (eq-eqb n k (sym is)) refl
found-flag (k ∷ ks) n (suc i) lt is = elim (cases_eq n k) [
  | inl e ↦ rw (eq-eqb n k e) refl
  | inr ne ↦ at-tail n (k, tt) (flags ks) ne ∙ found-flag ks n i (omega arith) is
]

flag-found : (ns : List ℕ) (n : ℕ) → at n (flags ns) ≡ Some tt → Contains ns n
flag-found [] n is = absurd (none-some tt is)
flag-found (k ∷ ks) n is = elim (cases_eq n k) [
  | inl e ↦ (0, omega arith, sym e)
  | inr ne ↦ (let rest = flag-found ks n (sym (at-tail n (k, tt) (flags ks) ne) ∙ is) in (suc rest.0, omega (arith, rest.1), rest.2))
]

only-flag : (o : Option (Unit {0})) → (o ≡ None) ⊎ (o ≡ Some tt)
only-flag None = inl refl
only-flag (Some tt) = inr refl

flags-same : (xs ys : List ℕ) → ((k : ℕ) → Contains xs k → Contains ys k) → ((k : ℕ) → Contains ys k → Contains xs k) → (n : ℕ) → at n (flags xs) ≡ at n (flags ys)
flags-same xs ys to from n = by (only-flag (at n (flags xs))) (only-flag (at n (flags ys))) where
  by : (at n (flags xs) ≡ None) ⊎ (at n (flags xs) ≡ Some tt) → (at n (flags ys) ≡ None) ⊎ (at n (flags ys) ≡ Some tt) → at n (flags xs) ≡ at n (flags ys)
  by (inl a) (inl b) = a ∙ sym b
  by (inr a) (inr b) = a ∙ sym b
  by (inl a) (inr b) = (let c = from n (flag-found ys n b) in absurd (none-some tt (sym a ∙ found-flag xs n c.0 c.1 c.2)))
  by (inr a) (inl b) = (let c = to n (flag-found xs n a) in absurd (none-some tt (sym b ∙ found-flag ys n c.0 c.1 c.2)))

back-flags : (ns : List ℕ) → map (λ (x : ℕ × Unit {0}). x.0) (flags ns) ≡ ns
back-flags [] = refl
back-flags (n ∷ ns) = ap (λ (l : List ℕ). n ∷ l) (back-flags ns)

same-numbers : (xs ys : List ℕ) → Ascend xs → Ascend ys → ((k : ℕ) → Contains xs k → Contains ys k) → ((k : ℕ) → Contains ys k → Contains xs k) → xs ≡ ys
same-numbers xs ys a b to from =
    sym (back-flags xs)
    ∙ ap (map (λ (x : ℕ × Unit {0}). x.0)) (same-pairs (flags xs) (flags ys) (flags-rise xs a) (flags-rise ys b) (flags-same xs ys to from))
    ∙ back-flags ys

pub signatures-same : (escaping types xs ys : List ℕ) → AreSignatures escaping types xs → AreSignatures escaping types ys → xs ≡ ys
signatures-same escaping types xs ys a b =
    same-numbers xs ys a.ascend b.ascend (λ k in_x. (b.exact k).1 ((a.exact k).0 in_x)) (λ k in_y. (a.exact k).1 ((b.exact k).0 in_y))
