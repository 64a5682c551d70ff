-- The least multiple of a size that is not below a number.
use Rattle.std.proofs.Common.{◌≡◌, ◌<◌, ◌≤◌, ◌+◌, ◌-◌, ◌*◌, ◌/◌, ◌%◌, ℕ, arith}
use Rattle.std.proofs.Math.Nat.{mod-lt, mod-eq_of_lt, mul-mod_left, mul-le-mul_right}
use Rattle.std.proofs.lemmas.Bool.{cases_lt}
use Rattle.std.proofs.lemmas.Nat.{div-add-mod'}
use Rattle.std.specs.Int.{next_multiple_of}
use Rattle.gc_layout.specs.Fields.{IsLeastMultiple}

-- a multiple is its own next multiple
next-at_multiple : (n size : ℕ) → 0 < size → n % size ≡ 0 → next_multiple_of n size ≡ n
next-at_multiple n size positive whole = grind (arith, mul-mod_left)

-- between two multiples, the next multiple is the upper one
next-between : (n size : ℕ) → 0 < size → 0 < n % size → next_multiple_of n size ≡ (n / size + 1) * size
next-between n size positive rest = grind (arith, mod-lt, mod-eq_of_lt, div-add-mod')

-- no multiple is between them
above_quotient : (n size k : ℕ) → 0 < n % size → k % size ≡ 0 → n ≤ k → (n / size + 1) * size ≤ k
above_quotient n size k rest whole above = grind (arith, div-add-mod', mul-le-mul_right, cases_lt)

pub least_multiple : (size n : ℕ) → 0 < size → IsLeastMultiple size n (next_multiple_of n size)
least_multiple size n positive = grind (arith, next-between, mul-mod_left, above_quotient, next-at_multiple, cases_lt)
