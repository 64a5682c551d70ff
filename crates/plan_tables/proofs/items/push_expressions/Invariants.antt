use Rattle.std.proofs.Common.{◌≡◌, ◌+◌, ◌++◌, length, map, take, drop}
use Rattle.std.specs.List.{flat_map}
use Rattle.plan_tables.specs.Operators.{operator_row}
use Rattle.plan_tables.specs.Spans.{spans_from}
use Rattle.plan_tables.proofs.items.push_expressions.Given as goal

abbrev pub invariant-loop-expression : goal.invariant-loop-expression
invariant-loop-expression l = record {
  parts : l.parts.items ++ spans_from (length l.operators.items) (map (λ e. length e) (drop l.expression-index l.expressions))
      ≡ l.initial.parts.items ++ spans_from (length l.initial.operators.items) (map (λ e. length e) l.expressions);
  operators : l.operators.items ≡ l.initial.operators.items ++ flat_map (λ e. map operator_row e) (take l.expression-index l.expressions);
  count : length l.parts.items ≡ length l.initial.parts.items + l.expression-index;
}
