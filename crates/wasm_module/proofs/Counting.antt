-- Lists of consecutive numbers.
use Rattle.std.proofs.Common.{◌≡◌, ◌+◌, ◌-◌, ℕ, zero, suc, ◌∷◌, refl, arith}
use Rattle.std.specs.List.{range_with_len}

-- the range as its first number and the others, where it has at least one
pub range_first : (first count : ℕ) → ¬ (count ≡ 0) → range_with_len first count ≡ first ∷ range_with_len (first + 1) (count - 1)
range_first first zero some = absurd (some refl)
range_first first (suc count) some = let one_less : suc count - 1 ≡ count = omega arith in rw one_less refl
