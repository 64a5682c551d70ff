use Rattle.std.proofs.Common.{◌≡◌, ◌++◌, length, map, take, drop}
use Rattle.std.specs.List.{flat_map}
use Rattle.plan_tables.specs.Operators.{operator_row}
use Rattle.plan_tables.specs.Spans.{spans_from}
use Rattle.plan_tables.proofs.expressions.expressions_of.Given as goal

abbrev pub invariant-loop-holder : goal.invariant-loop-holder
invariant-loop-holder g l = record {
  parts : l.parts.items ++ spans_from (length l.operators.items) (map (λ h. length (g.T.HasExpression.operators h)) (drop l.holder-index l.holders))
      ≡ spans_from 0 (map (λ h. length (g.T.HasExpression.operators h)) l.holders);
  rows : l.operators.items ≡ flat_map (λ h. map operator_row (g.T.HasExpression.operators h)) (take l.holder-index l.holders);
}
