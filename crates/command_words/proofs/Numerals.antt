-- What a text of digits spells.
use Rattle.std.proofs.Common.{◌≡◌, ◌≢◌, ℕ, zero, suc, ◌<◌, ◌^◌, List, [], ◌∷◌, get_or, ap, sym, ◌∙◌, refl, inl, inr, ◌⊎◌, arith}
use Rattle.std.specs.Prelude.{decimal, Some, IfSome, Result, Ok, Err}
use Rattle.std.specs.Result.{result_ok}
use Rattle.std.specs.Str.Parse.{ParsesUnsigned, AllDigits, digits_value}
use Rattle.std.proofs.lemmas.Fmt.{parse-decimal, decimal_digit, first_decimal, decimal-digits_value}
use Rattle.std.proofs.lemmas.Str.Parse.{IsNumeralModel, numerals_by_value, tells_digits, parse_plain}

own : IsNumeralModel (AllDigits 10) (digits_value 10)
own = numerals_by_value (AllDigits 10) tells_digits

-- what is parsed without a sign or a zero at its front is spelled so
pub parsed-is-spelled : {E : Type 0} (bs : List ℕ) (r : Result ℕ E) → ParsesUnsigned 64 10 bs r → get_or bs 0 0 ≢ 43 → get_or bs 0 0 ≢ 48
    → IfSome (result_ok r) (λ n. bs ≡ decimal n)
parsed-is-spelled {E = E} bs (Ok n) parses unsigned shortest =
    let given = parse_plain own {E = E} 64 bs (Ok n) parses unsigned in
    sym (decimal-digits_value own bs given.0.0 given.0.1 (λ first. absurd (shortest first)) given.0.2) ∙ ap decimal (sym given.1)
parsed-is-spelled {E = E} bs (Err e) parses unsigned shortest = tt

-- the number that is spelled is parsed
pub spelled-is-parsed : {E : Type 0} (bs : List ℕ) (r : Result ℕ E) (n : ℕ) → ParsesUnsigned 64 10 bs r → n < 2 ^ 64 → bs ≡ decimal n
    → result_ok r ≡ Some n
spelled-is-parsed bs r n parses fits e = ap result_ok (parse-decimal 64 n bs r fits fits e parses)

-- the first byte of a number's text
pub first-of-decimal : (n : ℕ) → n < 2 ^ 64 → ((n ≡ 0) × (decimal n ≡ 48 ∷ [])) ⊎ (48 < get_or (decimal n) 0 0)
first-of-decimal zero fits = inl (refl, decimal_digit 0 (omega arith))
first-of-decimal (suc n) fits = inr (first_decimal (suc n) (omega arith) fits)

pub zero-in-front : (bs : List ℕ) (n : ℕ) → n < 2 ^ 64 → bs ≡ decimal n → get_or bs 0 0 ≡ 48 → bs ≡ 48 ∷ []
zero-in-front bs n fits e first =
    elim (first-of-decimal n fits) [
      | inl alone ↦ e ∙ alone.1
      | inr above ↦ let here : get_or (decimal n) 0 0 ≡ 48 = ap (λ text. get_or text 0 0) (sym e) ∙ first in absurd (omega arith)
    ]

zero-is-no-plus : (first : ℕ) → first ≡ 48 → first ≡ 43 → ⊥
zero-is-no-plus first zero_first plus = omega arith

pub no-plus : (bs : List ℕ) (n : ℕ) → n < 2 ^ 64 → bs ≡ decimal n → get_or bs 0 0 ≢ 43
no-plus bs n fits e plus =
    let here : get_or (decimal n) 0 0 ≡ 43 = ap (λ text. get_or text 0 0) (sym e) ∙ plus in
    elim (first-of-decimal n fits) [
      | inl alone ↦ absurd (zero-is-no-plus _ (ap (λ text. get_or text 0 0) alone.1) here)
      | inr above ↦ absurd (omega arith)
    ]
