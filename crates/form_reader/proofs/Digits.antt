-- A number, byte by byte.
use Rattle.std.proofs.Common.{◌≡◌, ℕ, suc, ◌+◌, ◌-◌, ◌*◌, ◌%◌, ◌^◌, ◌<◌, ◌≤◌, List, [], ◌∷◌, length, Option, Some, None, refl, ap, sym, ◌∙◌, arith, mul_assoc, lit<}
use Rattle.std.specs.Option.{option_map}
use Rattle.std.proofs.lemmas.Bool.{le-ltb, lt-ltb}
use Rattle.std.proofs.Math.Nat.{pow-succ', pow-suc, pow-le-pow_right}
use Rattle.form_reader.specs.Reading.{uncons}
use Rattle.wasm_spec.specs.Numbers.{sevens, last_or}
use Rattle.form_reader.specs.ReadingNumbers.{number_bytes, Found, found_as}

abbrev begun : ℕ → ℕ → ℕ → List ℕ → Found × List ℕ
begun sum weight last rest = (record { sum = sum; weight = weight; last = last }, rest)

sum-cons : (s w b n : ℕ) → s + w * (b + 128 * n) ≡ (s + b * w) + (w * 128) * n
sum-cons s w b n = omega arith

-- what the bytes p.0 make of a partially read number
abbrev pub after : ℕ → ℕ → ℕ → List ℕ × List ℕ → Found × List ℕ
after sum weight last p = (record { sum = sum + weight * sevens p.0; weight = weight * 128 ^ length p.0; last = last_or last p.0 }, p.1)

-- what at most k more bytes make of a partially read number
abbrev pub remaining : ℕ → ℕ → ℕ → ℕ → List ℕ → Option (Found × List ℕ)
remaining sum weight last k bytes = option_map (after sum weight last) (number_bytes k bytes)

begun-same : (a b c d l : ℕ) (r : List ℕ) → a ≡ b → c ≡ d → begun a c l r ≡ begun b d l r
begun-same a b c d l r e f = cc

after-cons : (s w l b : ℕ) (p : List ℕ × List ℕ) → after s w l (b ∷ p.0, p.1) ≡ after (s + b % 128 * w) (w * 128) b p
after-cons s w l b p =
    begun-same _ _ _ _ (last_or b p.0) p.1 (sum-cons s w (b % 128) (sevens p.0))
    (rw (pow-succ' 128 (length p.0)) (sym (mul_assoc w 128 (128 ^ length p.0))))

after-map : (s w l b : ℕ) (o : Option (List ℕ × List ℕ))
    → option_map (after s w l) (option_map (λ p. (b ∷ p.0, p.1)) o) ≡ option_map (after (s + b % 128 * w) (w * 128) b) o
after-map s w l b None = refl
after-map s w l b (Some p) = ap Some (after-cons s w l b p)

goes_on : (s w l k b : ℕ) (bs : List ℕ) → 128 ≤ b → remaining s w l (suc k) (b ∷ bs) ≡ remaining (s + b % 128 * w) (w * 128) b k bs
goes_on s w l k b bs h = rw (le-ltb b 128 h) (after-map s w l b (number_bytes k bs))

ends : (s w l k b : ℕ) (bs : List ℕ) → b < 128 → remaining s w l (suc k) (b ∷ bs)
    ≡ Some (record { sum = s + b % 128 * w; weight = w * 128; last = b }, bs)
ends s w l k b bs h = rw (lt-ltb b 128 h) (ap (λ (n : ℕ). Some (record { sum = n; weight = w * 128; last = b }, bs)) (grind arith))

begins : (p : List ℕ × List ℕ) → after 0 1 0 p ≡ found_as p
begins p =
    let one : 0 + 1 * sevens p.0 ≡ sevens p.0 = grind arith in
    let two : 1 * 128 ^ length p.0 ≡ 128 ^ length p.0 = grind arith in
    rw (one, two) refl

pub all_remains : (k : ℕ) (bytes : List ℕ) → remaining 0 1 0 k bytes ≡ option_map found_as (number_bytes k bytes)
all_remains k bytes = over (number_bytes k bytes) where
  over : (o : Option (List ℕ × List ℕ)) → option_map (after 0 1 0) o ≡ option_map found_as o
  over None = refl
  over (Some p) = ap Some (begins p)

-- ---- bounds

pub weight_small : (i w : ℕ) → w ≡ 128 ^ i → i < 5 → w ≤ 2 ^ 28
weight_small i w e h = rw e (pow-le-pow_right {n = 128} (lit< tt) {i = i} {j = 4} (omega arith))

pub wide_weight_small : (i w : ℕ) → w ≡ 128 ^ i → i < 10 → w ≤ 2 ^ 63
wide_weight_small i w e h = rw e (pow-le-pow_right {n = 128} (lit< tt) {i = i} {j = 9} (omega arith))

pub digit_small : (b w : ℕ) → b < 128 → b * w ≤ 127 * w
digit_small b w l = grind arith

pub weight_next : (i w : ℕ) → w ≡ 128 ^ i → w * 128 ≡ 128 ^ (i + 1)
weight_next i w e = rw e (sym (pow-suc 128 i) ∙ ap (λ n. 128 ^ n) (omega arith))

-- ---- one step of a loop

some_is : (x y : ℕ × List ℕ) → Some x ≡ Some y → x ≡ y
some_is x y e = cc

pub uncons_is : (bytes : List ℕ) (b : ℕ) (rest : List ℕ) → Some (b, rest) ≡ uncons bytes → bytes ≡ b ∷ rest
uncons_is [] b rest e = absurd cc
uncons_is (c ∷ bytes) b rest e = sym (ap (λ (p : ℕ × List ℕ). p.0 ∷ p.1) (some_is (b, rest) (c, bytes) e))

-- one more byte, with more after it
pub step : (s w l most i b : ℕ) (bs r : List ℕ) (total : Option (Found × List ℕ)) → Some (b, r) ≡ uncons bs → i < most → 128 ≤ b
    → remaining s w l (most - i) bs ≡ total → remaining (s + b % 128 * w) (w * 128) b (most - (i + 1)) r ≡ total
step s w l most i b bs r total e lt h so_far =
    let k : most - i ≡ suc (most - (i + 1)) = omega arith in
    sym (goes_on s w l (most - (i + 1)) b r h) ∙ sym (rw (k, uncons_is bs b r e) refl) ∙ so_far

-- the last byte
pub stop : (s w l most i b : ℕ) (bs r : List ℕ) (total : Option (Found × List ℕ)) → Some (b, r) ≡ uncons bs → i < most → b < 128
    → remaining s w l (most - i) bs ≡ total → Some (record { sum = s + b % 128 * w; weight = w * 128; last = b }, r) ≡ total
stop s w l most i b bs r total e lt h so_far =
    let k : most - i ≡ suc (most - (i + 1)) = omega arith in
    sym (ends s w l (most - (i + 1)) b r h) ∙ sym (rw (k, uncons_is bs b r e) refl) ∙ so_far
