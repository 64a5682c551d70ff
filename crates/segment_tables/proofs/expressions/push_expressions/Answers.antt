use Rattle.std.proofs.Common.{◌++◌, map, take, sym, subst, arith}
use Rattle.std.proofs.lemmas.List.{append-nil, take_all}
use Rattle.form_reader.specs.Views.{expression_of}
use Rattle.segment_tables.specs.Expressions.{HasExpressions}
use Rattle.segment_tables.proofs.Rows.{mapped_more}
use Rattle.segment_tables.proofs.expressions.push_expressions.Goals as goal

pub loop-expression-init : goal.loop-expression-init
loop-expression-init c = λ es has. subst (λ xs. HasExpressions xs c.args.rows.now) (sym (append-nil es)) has

pub loop-expression-preserved : goal.loop-expression-preserved
loop-expression-preserved c = λ es has.
    subst (λ xs. HasExpressions xs c.push_expression.new.rows)
    (mapped_more expression_of es c.args.expressions.now c.loop-expression.expression-index c.expression-item.result (grind arith) c.expression-item.is)
    (c.in_ok-push_expression.ensures (es ++ map expression_of (take c.loop-expression.expression-index c.args.expressions.now)) (c.loop-expression.invariant es has))

pub returns : goal.returns
returns c = λ es has.
    subst (λ xs. HasExpressions (es ++ map expression_of xs) c.loop-expression.rows)
    (take_all c.loop-expression.expression-index c.args.expressions.now c.loop-expression-test.false) (c.loop-expression.invariant es has)
