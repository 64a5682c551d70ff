use Rattle.std.proofs.Common.{◌≡◌, ◌++◌, take, codes}
use Rattle.std.specs.List.{flat_map}
use Rattle.plan_lines.specs.Expressions.{operator_text}
use Rattle.plan_lines.proofs.expressions.append_expression.Given as goal

abbrev pub invariant-loop-operator : goal.invariant-loop-operator
invariant-loop-operator l = l.text ≡ l.initial.text ++ flat_map (λ o. codes "; " ++ operator_text o) (take l.operator-index l.others)
