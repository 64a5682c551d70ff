-- Constant expressions end to end, as rows.
use Rattle.std.specs.Prelude.{◌≡◌, List, length, map}
use Rattle.std.specs.List.{flat_map}
use Rattle.wasm_spec.specs.Module.{Expression}
use Rattle.plan_tables.specs.declared.record.ExpressionsRecord.{ExpressionsRecord}
use Rattle.segment_tables.specs.declared.expressions.ExpressionRows.{ExpressionRows}
use Rattle.plan_tables.specs.Spans.{spans_from}
use Rattle.segment_tables.specs.Operators.{operator_row}

-- each expression is a part of the operators, which are end to end
pub record TellsReadExpressions (es : List Expression) (r : ExpressionsRecord) : Type 0 where
  pub parts : r.parts.now ≡ spans_from 0 (map length es)
  pub operators : r.operators.now ≡ flat_map (map operator_row) es

-- the same, while there are more to come
pub record HasExpressions (es : List Expression) (r : ExpressionRows) : Type 0 where
  pub parts : r.parts.items ≡ spans_from 0 (map length es)
  pub operators : r.operators.items ≡ flat_map (map operator_row) es
