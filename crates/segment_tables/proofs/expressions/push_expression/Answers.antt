use Rattle.std.proofs.Common.{◌++◌, map, ap, ◌∙◌, arith}
use Rattle.std.proofs.lemmas.Grind.{common_steps}
use Rattle.form_reader.specs.Views.{expression_of}
use Rattle.segment_tables.specs.Operators.{operator_row}
use Rattle.segment_tables.proofs.Rows.{has_expression}
use Rattle.segment_tables.proofs.expressions.push_expression.Goals as goal

pub returns : goal.returns
returns c = λ es has.
    has_expression c.args.rows.now (record { parts = c.push.new.self; operators = c.push_operators.new.rows }) es (expression_of c.args.expression.now)
    c.len.result c.len-2.result has (grind (arith, common_steps)) (grind (arith, common_steps)) c.in_ok-push.ensures.items
    (c.in_ok-push_operators.ensures ∙ ap (λ ops. c.args.rows.now.operators.items ++ map operator_row ops) c.deref.ensures.value)
