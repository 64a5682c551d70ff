-- A number with one bit set is a power of two.
use Rattle.std.proofs.Common.{◌≡◌, ◌∙◌, ◌<◌, ◌≤◌, ◌+◌, ◌*◌, ◌/◌, ◌%◌, ◌^◌, ℕ, zero, suc, true, refl, ap, sym, arith, ⊎_elim}
use Rattle.std.proofs.lemmas.Bool.{cases_lt, eqb-true, eq-eqb}
use Rattle.std.proofs.lemmas.Nat.{div-add-mod', ones_cat, zero_from_ones, pow_pos}
use Rattle.std.proofs.Math.Nat.{pow-suc}
use Rattle.std.specs.Int.{is_power_of_two, IsPowerOfTwo}
use lib.Count.{ones, ones_step}

ones_one : ones 1 ≡ 1
unfolding ones
ones_one = refl

ones_zero : ones 0 ≡ 0
unfolding ones
ones_zero = refl

ones_pow : (k : ℕ) → ones (2 ^ k) ≡ 1
ones_pow k =
    let whole : 2 ^ k ≡ 1 * 2 ^ k + 0 = omega arith in
    ap ones whole ∙ ones_cat k 1 0 (pow_pos k) ∙ ap (λ n. n + ones 0) ones_one ∙ ap (λ n. 1 + n) ones_zero

-- a number of at most `most` that has one bit set
power_below : (most n : ℕ) → n ≤ most → ones n ≡ 1 → IsPowerOfTwo n
power_below zero n below one = grind (arith, ones_zero)
power_below (suc most) n below one =
    let step = ones_step n in
    let halves = div-add-mod' n 2 in
    ⊎_elim
    (λ odd.
    let rest : n / 2 ≡ 0 = zero_from_ones (n / 2) (omega (arith, step, one)) in
    (0, omega (arith, halves, rest)))
    (λ even.
    let positive : 0 < n = ⊎_elim (λ positive. positive) (λ none.
    let zero_is : n ≡ 0 = omega arith in absurd (omega (arith, sym one ∙ ap ones zero_is ∙ ones_zero))) (cases_lt 0 n) in
    let half = power_below most (n / 2) (omega (arith, halves)) (omega (arith, step, one)) in
    (suc half.0, omega (arith, halves, half.1, pow-suc 2 half.0)))
    (cases_lt 0 (n % 2))

pub power-from_test : (n : ℕ) → is_power_of_two n ≡ true → IsPowerOfTwo n
power-from_test n test = power_below n n (omega arith) (eqb-true _ _ test)

pub test-from_power : (n : ℕ) → IsPowerOfTwo n → is_power_of_two n ≡ true
test-from_power n power = eq-eqb _ _ (ap ones power.1 ∙ ones_pow power.0)
