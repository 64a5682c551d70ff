-- Pages of 2^64 bytes or more.
use Rattle.std.proofs.Common.{◌≡◌, ◌≢◌, ◌∙◌, ℕ, zero, ◌*◌, ◌-◌, ◌^◌, ◌<◌, ◌≤◌, sym, arith}
use Rattle.std.specs.Prelude.{min}
use Rattle.std.proofs.Math.Nat.{min_comm, min-eq_left, mul-le-mul_right, le_trans, sub-eq-zero_of_le}
use Rattle.std.proofs.Math.Pow.{pow_mono}

wide : (k : ℕ) → 64 ≤ k → 18446744073709551616 ≤ 2 ^ k
wide k le = pow_mono le

-- one page or more has 2^64 bytes or more
many : (pages k : ℕ) → 1 ≤ pages → 64 ≤ k → 18446744073709551616 ≤ pages * 2 ^ k
many pages k some le =
    let once : 2 ^ k ≤ 1 * 2 ^ k = omega arith in
    le_trans (wide k le) (le_trans once (mul-le-mul_right (2 ^ k) some))

pub greatest : (pages k : ℕ) → 1 ≤ pages → 64 ≤ k → 18446744073709551615 ≡ min (pages * 2 ^ k) 18446744073709551615
greatest pages k some le =
    let x : ℕ = pages * 2 ^ k in
    let least : 18446744073709551616 ≤ x = many pages k some le in
    let below : 18446744073709551615 ≤ x = omega (arith, least) in
    sym (min-eq_left below) ∙ min_comm 18446744073709551615 x

pub nothing-reached : (k : ℕ) → 64 ≤ k → zero ≡ 18446744073709551616 - 2 ^ k
nothing-reached k le = sym (sub-eq-zero_of_le (wide k le))
