-- The digits of a number, two at a time.
use Rattle.std.proofs.Common.{◌≡◌, ℕ, zero, suc, ◌+◌, ◌*◌, ◌/◌, ◌%◌, ◌^◌, ◌<◌, ◌≤◌, Bool, true, ◌&&◌, nat_eq, List, [], ◌∷◌, ◌++◌, get_or, inl, inr, append_assoc, arith}
use Rattle.std.proofs.lemmas.Bool.{cases_eq}
use Rattle.std.proofs.lemmas.Fmt.{decimal_digit, decimal_step}
use Rattle.std.specs.Prelude.{decimal}

abbrev pub pair : ℕ → List ℕ
pair p = (48 + p / 10) ∷ (48 + p % 10) ∷ []

pub decimal_two : (n : ℕ) → 10 ≤ n → n < 100 → decimal n ≡ pair n
decimal_two n lo hi = rw (decimal_step n lo (omega arith), decimal_digit (n / 10) (omega arith))

pub decimal_pair : (n : ℕ) → 100 ≤ n → n < 2 ^ 64 → decimal n ≡ decimal (n / 100) ++ pair (n % 100)
decimal_pair n lo hi =
    let a : n / 10 / 10 ≡ n / 100 = omega arith in
    let b : n / 10 % 10 ≡ n % 100 / 10 = omega arith in
    let c : n % 10 ≡ n % 100 % 10 = omega arith in
    rw (decimal_step n (omega arith) hi, decimal_step (n / 10) (omega arith) (omega arith), append_assoc, a, b, ← c)

pub decimal_four : (n : ℕ) → 10000 ≤ n → n < 2 ^ 64 → decimal n ≡ (decimal (n / 10000) ++ pair (n % 10000 / 100)) ++ pair (n % 100)
decimal_four n lo hi =
    let a : n / 100 / 100 ≡ n / 10000 = omega arith in
    let b : n / 100 % 100 ≡ n % 10000 / 100 = omega arith in
    rw (decimal_pair n (omega arith) hi, decimal_pair (n / 100) (omega arith) (omega arith), a, b)

-- the table has two digits for each number below n
abbrev holds_pairs : List ℕ → ℕ → Bool
holds_pairs table zero = true
holds_pairs table (suc p) = (nat_eq (get_or table (p * 2) 0) (48 + p / 10) && nat_eq (get_or table (p * 2 + 1) 0) (48 + p % 10)) && holds_pairs table p

pub pair_in : (table : List ℕ) (n p : ℕ) → holds_pairs table n ≡ true → p < n
    → (get_or table (p * 2) 0 ≡ 48 + p / 10) × (get_or table (p * 2 + 1) 0 ≡ 48 + p % 10)
pair_in table zero p held lt = absurd (omega arith)
pair_in table (suc n) p held lt = elim (cases_eq p n) [
  | inl same ↦ rw same (grind arith)
  | inr other ↦ pair_in table n p (grind arith) (omega arith)
]
