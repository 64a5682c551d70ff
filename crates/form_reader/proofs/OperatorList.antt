-- Operators up to the end mark, as a loop reads them.
use Rattle.std.proofs.Common.{◌≡◌, ℕ, suc, ◌-◌, ◌+◌, ◌≤◌, ◌<◌, List, [], ◌∷◌, ◌++◌, Result, Ok, Err, Some, None, refl, sym, ap, ◌∙◌, arith}
use Rattle.std.proofs.lemmas.Bool.{ne_eqb}
use Rattle.std.proofs.lemmas.List.{append-nil}
use Rattle.wasm_spec.specs.declared.operators.Operator.{Operator}
use Rattle.wasm_spec.specs.Module.{Expression}
use Rattle.form_reader.specs.declared.error.ReadError.{ReadError}
use Rattle.form_reader.specs.declared.error.ReadError.TheVariants as errors
use Rattle.form_reader.specs.Reading.{Fails, Fault, Bad, Stops, uncons}
use Rattle.form_reader.specs.ExpressionRows.{operator_after}
use Rattle.form_reader.specs.ExpressionLaws.{operators_at}
use Rattle.form_reader.proofs.Digits.{uncons_is}
use Rattle.form_reader.proofs.Loop.{with_front, regroup}

module _ (front : Expression) (n i : ℕ) (bytes : List ℕ) (total : Result (Expression × List ℕ) Fault)
    (so_far : with_front front (operators_at (n - i) bytes) ≡ total) where
  -- one more step remains
  next : i < n → with_front front (operators_at (suc (n - (i + 1))) bytes) ≡ total
  next l = let k : n - i ≡ suc (n - (i + 1)) = omega arith in sym (rw k refl) ∙ so_far

  -- the bytes end, or the steps
  pub op_cut : i < n → None ≡ uncons bytes → total ≡ Err Bad
  unfolding operators_at
  op_cut l e = sym (next l) ∙ cut bytes e where
    cut : (l : List ℕ) → None ≡ uncons l → with_front front (operators_at (suc (n - (i + 1))) l) ≡ Err Bad
    cut [] e = refl
    cut (b ∷ l) e = absurd cc

  pub op_none : n ≤ i → total ≡ Err Bad
  unfolding operators_at
  op_none l = let k : n - i ≡ 0 = omega arith in sym so_far ∙ rw k refl

  module _ (b : ℕ) (after : List ℕ) (l : i < n) (e : Some (b, after) ≡ uncons bytes) where
    pub op_end : b ≡ 0x0B → total ≡ Ok (front, after)
    unfolding operators_at
    op_end is = sym (next l) ∙ rw (uncons_is bytes b after e, is) (ap (λ (xs : Expression). Ok (xs, after)) (append-nil front))

    pub op_more : (op : Operator) (rest : List ℕ) → (b ≡ 0x0B → ⊥) → (operator_after b).read after ≡ Ok (op, rest)
        → with_front (front ++ op ∷ []) (operators_at (n - (i + 1)) rest) ≡ total
    unfolding operators_at
    op_more op rest differs h =
        sym (regroup front op (operators_at (n - (i + 1)) rest)) ∙ sym (rw (uncons_is bytes b after e, ne_eqb b 0x0B differs, h) refl) ∙ next l

    op_stays : (fault : Fault) → (b ≡ 0x0B → ⊥) → (operator_after b).read after ≡ Err fault → total ≡ Err fault
    unfolding operators_at
    op_stays fault differs h = sym (next l) ∙ rw (uncons_is bytes b after e, ne_eqb b 0x0B differs, h) refl

    pub op_fails : (error : ReadError) → (b ≡ 0x0B → ⊥) → Fails error ((operator_after b).read after) → Fails error total
    op_fails errors.OutOfMemory differs h = tt
    op_fails errors.TooLarge differs h = absurd h
    op_fails errors.Malformed differs h = op_stays Bad differs h
    op_fails (errors.Unsupported w) differs h = op_stays (Stops w) differs h
