use Rattle.std.proofs.Common.{◌≡◌, ◌-◌, suc, sym, ◌∙◌, arith}
use Rattle.std.proofs.lemmas.List.{append-nil}
use Rattle.plan_lines.specs.Expressions.{hexadecimal}
use Rattle.plan_lines.proofs.Hexadecimal.{hexadecimal-next}
use Rattle.plan_lines.proofs.text.Text.push_hexadecimal.Goals as goal

-- the first of the digits that remained is written
pub loop-place-preserved : goal.loop-place-preserved
loop-place-preserved c =
    let one_more : c.loop-place.place ≡ suc (c.loop-place.place - 1) = omega arith in
    hexadecimal-next _ _ (c.loop-place.place - 1) c.args.number _ c.hexadecimal_digit.ensures c.in_ok-push_byte.ensures
    ∙ rw one_more at c.loop-place.invariant

-- no digit remains
pub returns : goal.returns
unfolding hexadecimal
returns c =
    let none : c.loop-place.place ≡ 0 = omega arith in
    sym (append-nil c.loop-place.self) ∙ rw none at c.loop-place.invariant
