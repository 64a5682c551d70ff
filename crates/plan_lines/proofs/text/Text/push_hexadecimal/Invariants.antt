use Rattle.std.proofs.Common.{◌≡◌, ◌++◌}
use Rattle.plan_lines.specs.Expressions.{hexadecimal}
use Rattle.plan_lines.proofs.text.Text.push_hexadecimal.Given as goal

-- with the digits that remain, the text is complete
abbrev pub invariant-loop-place : goal.invariant-loop-place
invariant-loop-place l = l.self ++ hexadecimal l.place l.number ≡ l.initial.self ++ hexadecimal l.digits l.number
