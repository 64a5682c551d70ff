-- Numbers that are given in rows of consecutive numbers. Each row begins at or below the count of
-- those given before, so they come in the order of first occurrence, and there are no others.
use Rattle.std.proofs.Common.{◌≡◌, ◌∙◌, ℕ, ◌+◌, ◌-◌, ◌<◌, ◌≤◌, inl, inr, ap, arith}
use Rattle.std.proofs.lemmas.Bool.{cases_lt}
use Rattle.form_types.specs.Taken.{AreGiven}

module _ (number number' : ℕ → ℕ) (many count first long : ℕ) (given : AreGiven number many count) (low : first ≤ count)
    (agree : (i : ℕ) → i < many → number' i ≡ number i) (row : (p : ℕ) → p < long → number' (many + p) ≡ first + p) where
  -- a number below the count, or in the row before a position, was given before that position
  before : (p id : ℕ) → p ≤ long → (count ≤ id → id < first + p) → (j : ℕ) × (j < many + p) × (number' j ≡ id)
  before p id le high =
      elim (cases_lt id count) [
        | inl lt ↦ let f = given.nothing_else id lt in (f.0, omega (arith, f.1), agree f.0 f.1 ∙ f.2)
        | inr ge ↦
            let lt = high ge in
            (many + (id - first), omega (arith, lt, ge, low), row (id - first) (omega (arith, lt, ge, low, le)) ∙ omega (arith, ge, low))
      ]

  pub given-more : (count' : ℕ) → ((id : ℕ) → id < count' → count ≤ id → id < first + long) → AreGiven number' (many + long) count'
  given-more count' up = record {
    in_order = λ i id lt below.
        elim (cases_lt i many) [
          | inl old ↦
              let f = given.in_order i id old (rw (agree i old) at below) in
              (f.0, f.1, agree f.0 (omega (arith, f.1, old)) ∙ f.2)
          | inr new ↦
              let at : many + (i - many) ≡ i = omega (arith, new) in
              let within : i - many < long = omega (arith, lt, new) in
              let f = before (i - many) id (omega (arith, within)) (λ over. omega (arith, below, ap number' at, row (i - many) within)) in
              (f.0, omega (arith, f.1, at), f.2)
        ];
    nothing_else = λ id lt. before long id (omega arith) (up id lt);
  }
