use Rattle.std.proofs.Common.{List, ◌++◌, map, take}
use Rattle.wasm_spec.specs.Module.{Expression}
use Rattle.form_reader.specs.Views.{expression_of}
use Rattle.segment_tables.specs.Expressions.{HasExpressions}
use Rattle.segment_tables.proofs.expressions.push_expressions.Given as goal

abbrev pub invariant-loop-expression : goal.invariant-loop-expression
invariant-loop-expression l = (es : List Expression) → HasExpressions es l.initial.rows → HasExpressions (es ++ map expression_of (take l.expression-index l.expressions)) l.rows
