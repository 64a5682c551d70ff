use Rattle.std.proofs.Common.{◌≡◌, ◌-◌}
use Rattle.form_reader.specs.Reading.{rest_at}
use Rattle.form_reader.specs.ExpressionLaws.{operators_at}
use Rattle.form_reader.proofs.passed_expressions.past_expression.Given as goal

abbrev pub invariant-operators : goal.invariant-operators
invariant-operators l = rest_at (operators_at (l.most - l.counter)) l.rest ≡ rest_at (operators_at l.most) l.fn.bytes
