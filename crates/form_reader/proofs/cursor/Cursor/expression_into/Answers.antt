use Rattle.std.proofs.Common.{◌≡◌, ◌-◌, length, arith}
use Rattle.std.proofs.lemmas.Result.{err_from_is_err_and}
use Rattle.form_reader.specs.ExpressionLaws.{operators_at}
use Rattle.form_reader.proofs.Loop.{all_so_far}
use Rattle.form_reader.proofs.OperatorList.{op_more, op_end, op_fails, op_cut, op_none}
use Rattle.form_reader.proofs.cursor.Cursor.expression_into.Goals as goal

pub operators-init : goal.operators-init
operators-init c =
    let k : length c.args.self.now.rest.now - 0 ≡ length c.args.self.now.rest.now = omega arith in
    rw (c.reserve_exact.ensures.items, c.clear.ensures.items, k) (all_so_far (operators_at (length c.args.self.now.rest.now) c.args.self.now.rest.now))

pub returns-in_err-first : goal.returns-in_err-first
returns-in_err-first c =
    let p = err_from_is_err_and c.from_residual-in_err-first.result c.from_residual-in_err-first.ensures.1 in
    rw (p.1, p.2, c.in_err-first.ensures.0)
    (op_cut c.operators.ops.items _ c.operators.counter c.operators.self.rest.now _ c.operators.invariant c.operators-test.true c.in_err-first.ensures.1)

pub returns-then-first-eq-END : goal.returns-then-first-eq-END
returns-then-first-eq-END c =
    op_end c.operators.ops.items _ c.operators.counter c.operators.self.rest.now _ c.operators.invariant c.in_ok-first.first c.byte.new.self.rest.now
    c.operators-test.true c.in_ok-first.ensures c.if-first-eq-END.true

pub returns-in_err-op : goal.returns-in_err-op
returns-in_err-op c =
    let p = err_from_is_err_and c.from_residual-in_err-op.result c.from_residual-in_err-op.ensures.1 in
    rw (p.1, p.2)
    (op_fails c.operators.ops.items _ c.operators.counter c.operators.self.rest.now _ c.operators.invariant c.in_ok-first.first
    c.byte.new.self.rest.now c.operators-test.true c.in_ok-first.ensures c.in_err-op.field-0.0 c.if-first-eq-END.false c.in_err-op.ensures)

pub operators-preserved : goal.operators-preserved
operators-preserved c =
    rw c.in_ok-push.ensures.items
    (op_more c.operators.ops.items _ c.operators.counter c.operators.self.rest.now _ c.operators.invariant c.in_ok-first.first
    c.byte.new.self.rest.now c.operators-test.true c.in_ok-first.ensures c.in_ok-op.op c.operator.new.self.rest.now c.if-first-eq-END.false
    c.in_ok-op.ensures)

pub returns : goal.returns
returns c = op_none c.operators.ops.items _ c.operators.counter c.operators.self.rest.now _ c.operators.invariant c.operators-test.false
