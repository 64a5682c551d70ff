use Rattle.std.proofs.Common.{◌≡◌, ◌-◌, length, arith, refl}
use Rattle.form_reader.specs.Reading.{rest_at}
use Rattle.form_reader.specs.ExpressionLaws.{operators_at}
use Rattle.form_reader.proofs.PastOperators.{past_end, past_more}
use Rattle.form_reader.proofs.passed_expressions.past_expression.Goals as goal

pub operators-init : goal.operators-init
operators-init c =
    let k : length c.args.bytes.now - 0 ≡ length c.args.bytes.now = omega arith in
    rw k refl

pub returns-then-first-eq-END : goal.returns-then-first-eq-END
unfolding operators_at rest_at
returns-then-first-eq-END c =
    past_end _ c.operators.counter c.operators.rest.now _ c.operators.invariant c.in_ok-first.first c.in_ok-first.after.now c.operators-test.true
    c.in_ok-first.ensures c.if-first-eq-END.true

pub operators-preserved : goal.operators-preserved
operators-preserved c =
    past_more _ c.operators.counter c.operators.rest.now _ c.operators.invariant c.in_ok-first.first c.in_ok-first.after.now c.operators-test.true
    c.in_ok-first.ensures c.in_ok-rest.rest.now c.if-first-eq-END.false c.in_ok-rest.ensures
