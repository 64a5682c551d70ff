-- A number that has every bit of another.
use Rattle.std.proofs.Common.{◌≡◌, ◌∙◌, ◌<◌, ◌↔◌, ℕ, min, eqb, ap, sym, arith, ⊎_elim, zero-mul}
use Rattle.std.specs.Prelude.{bit_and, IsTrue}
use Rattle.std.specs.Int.{IsBitSet, bit_at}
use Rattle.std.proofs.lemmas.Bool.{cases_lt, eqb-true, eq-eqb}
use Rattle.std.proofs.lemmas.Nat.{pow_pos}
use Rattle.std.proofs.lemmas.Nat.Bits.{bit_at_and, and_pow, bit_at-lt, same_from_bits}
use Rattle.gc_layout.specs.Kinds.{HasBitsOf}

-- a bit is set where its position holds 1
set-from_bit_at : (n k : ℕ) → 0 < bit_at n k → IsBitSet n k
set-from_bit_at n k holds none = grind (arith, and_pow, pow_pos)

bit_at-from_set : (n k : ℕ) → IsBitSet n k → 0 < bit_at n k
bit_at-from_set n k set = grind (arith, and_pow, zero-mul, cases_lt)

-- the bits that both have are the second number
pub bits-from_and : (n m : ℕ) → bit_and n m ≡ m → HasBitsOf n m
bits-from_and n m all k set =
    let of_both : bit_at m k ≡ min (bit_at n k) (bit_at m k) = ap (λ m. bit_at m k) (sym all) ∙ bit_at_and n m k in
    set-from_bit_at n k (omega (arith, of_both, bit_at-from_set m k set))

pub and-from_bits : (n m : ℕ) → HasBitsOf n m → bit_and n m ≡ m
and-from_bits n m all = same_from_bits (bit_and n m) m (λ k. at_place k)
  where
    at_place : (k : ℕ) → bit_at (bit_and n m) k ≡ bit_at m k
    at_place k =
        bit_at_and n m k ∙ ⊎_elim
        (λ holds. let other = bit_at-from_set n k (all k (set-from_bit_at m k holds)) in omega (arith, other, bit_at-lt n k, bit_at-lt m k))
        (λ none. omega (arith, none)) (cases_lt 0 (bit_at m k))

-- the test for this
pub matches_by_and : (n m : ℕ) → IsTrue (eqb (bit_and n m) m) ↔ HasBitsOf n m
matches_by_and n m = (λ same. bits-from_and n m (eqb-true _ _ same), λ all. eq-eqb _ _ (and-from_bits n m all))
