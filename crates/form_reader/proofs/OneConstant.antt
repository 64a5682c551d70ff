-- Expressions of one constant.
use Rattle.std.proofs.Common.{◌≡◌, ℕ, List, [], ◌∷◌, length, Some, Ok, refl}
use Rattle.std.specs.Prelude.{ℤ}
use Rattle.wasm_spec.specs.declared.operators.Operator.TheVariants.{I32Const}
use Rattle.form_reader.specs.Reading.{uncons}
use Rattle.form_reader.specs.ReadingNumbers.{signed_at, found_at}
use Rattle.form_reader.specs.ExpressionRows.{operator_after, constant_after}
use Rattle.form_reader.specs.ExpressionLaws.{operators_at, expression_at}
use Rattle.form_reader.proofs.Digits.{uncons_is}

-- a number takes a byte at least, and so one more step remains for the end mark
last_step : (bytes after : List ℕ) (v : ℤ) → signed_at 32 bytes ≡ Ok (v, 0x0B ∷ after) → operators_at (length bytes) (0x0B ∷ after) ≡ Ok ([], after)
unfolding operators_at signed_at found_at
last_step [] after v e = absurd (cc)
last_step (b ∷ bytes) after v e = refl

constant_is : (bytes after : List ℕ) (v : ℤ) → signed_at 32 bytes ≡ Ok (v, 0x0B ∷ after) → (operator_after 0x41).read bytes ≡ Ok (I32Const v, 0x0B ∷ after)
unfolding operator_after constant_after
constant_is bytes after v e = rw e refl

one_after : (bytes after : List ℕ) (v : ℤ) → signed_at 32 bytes ≡ Ok (v, 0x0B ∷ after) → expression_at (0x41 ∷ bytes) ≡ Ok (I32Const v ∷ [], after)
unfolding operators_at
one_after bytes after v e = rw (constant_is bytes after v e, last_step bytes after v e) refl

pub one_is : (bytes rest after : List ℕ) (b : ℕ) (v : ℤ) → Some (b, rest) ≡ uncons bytes → b ≡ 0x41 → signed_at 32 rest ≡ Ok (v, 0x0B ∷ after)
    → expression_at bytes ≡ Ok (I32Const v ∷ [], after)
one_is bytes rest after b v e is h = rw (uncons_is bytes b rest e, is) (one_after rest after v h)
