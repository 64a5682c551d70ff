-- Numbers of one byte.
use Rattle.std.proofs.Common.{◌≡◌, ℕ, suc, ◌+◌, ◌*◌, ◌%◌, ◌^◌, ◌<◌, List, Some, Ok, refl, ◌∙◌, arith, leb, false}
use Rattle.std.specs.Prelude.{pos}
use Rattle.std.proofs.lemmas.Bool.{lt-ltb, lt-leb}
use Rattle.form_reader.specs.Reading.{uncons}
use Rattle.form_reader.specs.ReadingNumbers.{found_at, unsigned_at, signed_at, non_negative_at}
use Rattle.form_reader.proofs.Digits.{uncons_is}

short-sum : (b : ℕ) → b < 128 → b % 128 + 128 * 0 ≡ b
short-sum b h = omega arith

-- a byte below 128 is a number
pub short_found : (m b : ℕ) (rest bytes : List ℕ) → Some (b, rest) ≡ uncons bytes → b < 128
    → found_at (suc m) bytes ≡ Some (record { sum = b; weight = 128 ^ 1; last = b }, rest)
unfolding found_at
short_found m b rest bytes e h = rw (uncons_is bytes b rest e, lt-ltb b 128 h, short-sum b h) refl

pub short_u32 : (b : ℕ) (rest bytes : List ℕ) → Some (b, rest) ≡ uncons bytes → b < 128 → unsigned_at 32 bytes ≡ Ok (b, rest)
unfolding unsigned_at
short_u32 b rest bytes e h =
    let fits : b < 2 ^ 32 = omega arith in
    rw (short_found 4 b rest bytes e h, lt-ltb b (2 ^ 32) fits) refl

pub zero_u32 : (b : ℕ) (rest bytes : List ℕ) → Some (b, rest) ≡ uncons bytes → b ≡ 0 → unsigned_at 32 bytes ≡ Ok (0, rest)
zero_u32 b rest bytes e is = short_u32 b rest bytes e (omega (arith, is)) ∙ rw is refl

pub short_u64 : (b : ℕ) (rest bytes : List ℕ) → Some (b, rest) ≡ uncons bytes → b < 128 → unsigned_at 64 bytes ≡ Ok (b, rest)
unfolding unsigned_at
short_u64 b rest bytes e h =
    let fits : b < 2 ^ 64 = omega arith in
    rw (short_found 9 b rest bytes e h, lt-ltb b (2 ^ 64) fits) refl

not_low : (b : ℕ) → b < 64 → leb 64 (b % 128) ≡ false
not_low b h = lt-leb 64 (b % 128) (omega arith)

pub short_s32 : (b : ℕ) (rest bytes : List ℕ) → Some (b, rest) ≡ uncons bytes → b < 64 → signed_at 32 bytes ≡ Ok (pos b, rest)
unfolding signed_at
short_s32 b rest bytes e h =
    let small : b < 128 = omega arith in
    let fits : b < 2 ^ 31 = omega arith in
    rw (short_found 4 b rest bytes e small, not_low b h, lt-ltb b (2 ^ 31) fits) refl

pub short_s64 : (b : ℕ) (rest bytes : List ℕ) → Some (b, rest) ≡ uncons bytes → b < 64 → signed_at 64 bytes ≡ Ok (pos b, rest)
unfolding signed_at
short_s64 b rest bytes e h =
    let small : b < 128 = omega arith in
    let fits : b < 2 ^ 63 = omega arith in
    rw (short_found 9 b rest bytes e small, not_low b h, lt-ltb b (2 ^ 63) fits) refl

low_bits : (b : ℕ) → b < 64 → b % 128 < 64
low_bits b h = omega arith

pub short_non_negative : (b : ℕ) (rest bytes : List ℕ) → Some (b, rest) ≡ uncons bytes → b < 64 → non_negative_at 33 bytes ≡ Ok (b, rest)
unfolding non_negative_at
short_non_negative b rest bytes e h =
    let small : b < 128 = omega arith in
    let fits : b < 2 ^ 32 = omega arith in
    rw (short_found 4 b rest bytes e small, lt-ltb (b % 128) 64 (low_bits b h), lt-ltb b (2 ^ 32) fits) refl
