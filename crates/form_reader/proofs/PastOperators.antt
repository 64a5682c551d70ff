-- Operators up to the end mark, as a loop passes over them.
use Rattle.std.proofs.Common.{◌≡◌, ℕ, zero, suc, ◌-◌, ◌+◌, ◌<◌, List, ◌∷◌, Result, Ok, Err, Some, refl, sym, ◌∙◌, arith, inl, inr}
use Rattle.std.specs.Prelude.{◌⊎◌}
use Rattle.std.proofs.lemmas.Bool.{ne_eqb}
use Rattle.wasm_spec.specs.declared.operators.Operator.{Operator}
use Rattle.wasm_spec.specs.Module.{Expression}
use Rattle.form_reader.specs.Reading.{Fault, and_then, rest_at, uncons}
use Rattle.form_reader.specs.ReadingNumbers.{unsigned_at, signed_at}
use Rattle.form_reader.specs.ExpressionRows.{operator_after, constant_after, arithmetic_after, object_operator, indexed}
use Rattle.form_reader.specs.ExpressionLaws.{operators_at}
use Rattle.form_reader.proofs.Digits.{uncons_is}
use Rattle.form_reader.proofs.Passed.{past}
use Rattle.form_reader.proofs.ShortNumbers.{short_u32}

-- one more operator in front leaves the same bytes
same_rest : (op : Operator) (r : Result (Expression × List ℕ) Fault)
    → and_then {B = List ℕ} (and_then {B = Expression × List ℕ} r (λ x. Ok (op ∷ x.0, x.1))) (λ x. Ok x.1) ≡ and_then {B = List ℕ} r (λ x. Ok x.1)
same_rest op (Ok x) = refl
same_rest op (Err f) = refl

module _ (n i : ℕ) (bytes : List ℕ) (total : Result (List ℕ) Fault) (so_far : rest_at (operators_at (n - i)) bytes ≡ total)
    (b : ℕ) (after : List ℕ) (l : i < n) (e : Some (b, after) ≡ uncons bytes) where
  -- one more step remains
  next : rest_at (operators_at (suc (n - (i + 1)))) bytes ≡ total
  next = let k : n - i ≡ suc (n - (i + 1)) = omega arith in sym (rw k refl) ∙ so_far

  pub past_end : b ≡ 0x0B → total ≡ Ok after
  unfolding operators_at rest_at
  past_end is = sym next ∙ rw (uncons_is bytes b after e, is) refl

  pub past_more : (rest : List ℕ) → (b ≡ 0x0B → ⊥) → rest_at (operator_after b).read after ≡ Ok rest
      → rest_at (operators_at (n - (i + 1))) rest ≡ total
  unfolding operators_at rest_at
  past_more rest differs h =
      let p = past (operator_after b).read after rest h in
      sym (same_rest p.0 (operators_at (n - (i + 1)) rest)) ∙ sym (rw (uncons_is bytes b after e, ne_eqb b 0x0B differs, p.1) refl) ∙ next

-- ---- what the first byte selects

pub past_indexed : (b : ℕ) (bytes after : List ℕ) → ◌⊎◌ (b ≡ 0x23) (b ≡ 0xD2) → rest_at (unsigned_at 32) bytes ≡ Ok after
    → rest_at (operator_after b).read bytes ≡ Ok after
unfolding rest_at operator_after indexed
past_indexed b bytes after (inl is) h = let p = past (unsigned_at 32) bytes after h in rw (is, p.1) refl
past_indexed b bytes after (inr is) h = let p = past (unsigned_at 32) bytes after h in rw (is, p.1) refl

pub past_constant : (b : ℕ) (bytes after : List ℕ) → b ≡ 0x41 → rest_at (signed_at 32) bytes ≡ Ok after → rest_at (operator_after b).read bytes ≡ Ok after
unfolding rest_at operator_after constant_after
past_constant b bytes after is h = let p = past (signed_at 32) bytes after h in rw (is, p.1) refl

pub past_sum : (b : ℕ) (bytes : List ℕ) → b ≡ 0x6A → rest_at (operator_after b).read bytes ≡ Ok bytes
unfolding rest_at operator_after constant_after arithmetic_after
past_sum b bytes is = rw is refl

pub past_new : (n : ℕ) (bytes rest after : List ℕ) → n < 2 → Some (n, rest) ≡ uncons bytes → rest_at (unsigned_at 32) rest ≡ Ok after
    → rest_at (operator_after 0xFB).read bytes ≡ Ok after
unfolding rest_at operator_after object_operator indexed
past_new zero bytes rest after l e h = let p = past (unsigned_at 32) rest after h in rw (short_u32 0 rest bytes e (omega arith), p.1) refl
past_new (suc zero) bytes rest after l e h = let p = past (unsigned_at 32) rest after h in rw (short_u32 1 rest bytes e (omega arith), p.1) refl
past_new (suc (suc n)) bytes rest after l e h = absurd (omega arith)
