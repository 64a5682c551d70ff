-- The text of an operator is its name, and its operands.
use Rattle.plan_lines.proofs.Operators.{operator_told}
use Rattle.plan_lines.proofs.expressions.append_lent.Goals as goal

pub returns : goal.returns
returns c = rw (operator_told c.args.operator.now) at (rw c.name.ensures at (rw c.operands.ensures at c.append_followed.ensures))
