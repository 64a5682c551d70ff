use Rattle.std.proofs.Common.{◌≡◌, ◌-◌}
use Rattle.form_reader.specs.ExpressionLaws.{operators_at}
use Rattle.form_reader.proofs.Loop.{with_front}
use Rattle.form_reader.proofs.cursor.Cursor.expression_into.Given as goal

abbrev pub invariant-operators : goal.invariant-operators
invariant-operators l = with_front l.ops.items (operators_at (l.most - l.counter) l.self.rest.now) ≡ operators_at l.most l.fn.self.rest.now
