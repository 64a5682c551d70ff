use Rattle.std.proofs.Common.{◌≡◌, get_or, ap, sym, ◌∙◌, arith}
use Rattle.std.specs.Prelude.{Some}
use Rattle.std.specs.Cmp.Lexicographic.{same_text}
use Rattle.std.proofs.lemmas.Fmt.{decimal_digit, decimal_injective}
use Rattle.std.proofs.lemmas.Str.Pattern.{starts_char}
use Rattle.command_words.proofs.Numerals.{parsed-is-spelled, spelled-is-parsed, zero-in-front, no-plus}
use Rattle.command_words.proofs.numbers.read_number.Goals as goal

pub returns-then-eq-clause-spelled : goal.returns-then-eq-clause-spelled
returns-then-eq-clause-spelled c = same_text _ _ (sym c.if-eq.true ∙ c.eq.ensures) ∙ sym (decimal_digit 0 (omega arith))

pub returns-then-eq-clause-complete : goal.returns-then-eq-clause-complete
returns-then-eq-clause-complete c = λ n fits e.
    ap Some (decimal_injective 0 n (omega arith) fits (decimal_digit 0 (omega arith) ∙ sym (same_text _ _ (sym c.if-eq.true ∙ c.eq.ensures)) ∙ e))

pub returns-then-starts_with-clause-complete : goal.returns-then-starts_with-clause-complete
returns-then-starts_with-clause-complete c = λ n fits e.
    let first = starts_char 48 c.args.text.now c.starts_with.result c.starts_with.ensures.cases (omega arith) (omega arith) in
    let alone = zero-in-front c.args.text.now n fits e (first.0 c.if-starts_with.true) in
    let found = rw alone at c.eq.ensures in
    cc

pub returns-then-starts_with-2-clause-complete : goal.returns-then-starts_with-2-clause-complete
returns-then-starts_with-2-clause-complete c = λ n fits e.
    let first = starts_char 43 c.args.text.now c.starts_with-2.result c.starts_with-2.ensures.cases (omega arith) (omega arith) in
    absurd (no-plus c.args.text.now n fits e (first.0 c.if-starts_with-2.true))

pub returns-clause-spelled : goal.returns-clause-spelled
returns-clause-spelled c =
    let zero = starts_char 48 c.args.text.now c.starts_with.result c.starts_with.ensures.cases (omega arith) (omega arith) in
    let plus = starts_char 43 c.args.text.now c.starts_with-2.result c.starts_with-2.ensures.cases (omega arith) (omega arith) in
    rw c.ok.ensures.value
    (parsed-is-spelled c.args.text.now c.parse.result c.parse.ensures.value.0
    (λ (h : get_or c.args.text.now 0 0 ≡ 43). let found = plus.1 h in cc)
    (λ (h : get_or c.args.text.now 0 0 ≡ 48). let found = zero.1 h in cc))

pub returns-clause-complete : goal.returns-clause-complete
returns-clause-complete c = λ n fits e. c.ok.ensures.value ∙ spelled-is-parsed c.args.text.now c.parse.result n c.parse.ensures.value.0 fits e
