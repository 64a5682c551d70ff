-- Digits of a number in base 16, from the first.
use Rattle.std.proofs.Common.{◌≡◌, ℕ, zero, suc, ◌+◌, ◌*◌, ◌/◌, ◌%◌, ◌^◌, false, List, [], ◌∷◌, ◌++◌, ap, sym, ◌∙◌, append_assoc, arith}
use Rattle.std.proofs.Math.Nat.{div-one, div-div-eq-div-mul}
use Rattle.std.proofs.lemmas.Nat.{pow-add}
use Rattle.std.specs.Fmt.{digit_glyph}
use Rattle.plan_lines.specs.Expressions.{hexadecimal}

-- without one digit, and then without k more
div-digits : (k n : ℕ) → n / 16 / 2 ^ (4 * k) ≡ n / 2 ^ (4 * suc k)
div-digits k n =
    let more : 4 * suc k ≡ 4 + 4 * k = omega arith in
    div-div-eq-div-mul n 16 (2 ^ (4 * k)) ∙ ap (λ m. n / m) (sym (ap (λ e. 2 ^ e) more ∙ pow-add 2 4 (4 * k)))

-- the first of k + 1 digits is the last one of the number without its last k digits
hexadecimal-suc : (k n : ℕ) → hexadecimal (suc k) n ≡ digit_glyph false (n / 2 ^ (4 * k) % 16) ∷ hexadecimal k n
unfolding hexadecimal
hexadecimal-suc zero n = ap (λ m. digit_glyph false (m % 16) ∷ []) (sym (div-one n))
hexadecimal-suc (suc k) n =
    ap (λ ds. ds ++ digit_glyph false (n % 16) ∷ []) (hexadecimal-suc k (n / 16))
    ∙ ap (λ m. digit_glyph false (m % 16) ∷ (hexadecimal k (n / 16) ++ digit_glyph false (n % 16) ∷ [])) (div-digits k n)

-- a text that has the first of k + 1 digits lacks the other k
pub hexadecimal-next : (text longer : List ℕ) (k n digit : ℕ)
    → digit ≡ digit_glyph false (n / 2 ^ (4 * k) % 16) → longer ≡ text ++ digit ∷ []
    → longer ++ hexadecimal k n ≡ text ++ hexadecimal (suc k) n
hexadecimal-next text longer k n digit is_first appended =
    rw (hexadecimal-suc k n, appended, is_first) (append_assoc text (digit_glyph false (n / 2 ^ (4 * k) % 16) ∷ []) (hexadecimal k n))
