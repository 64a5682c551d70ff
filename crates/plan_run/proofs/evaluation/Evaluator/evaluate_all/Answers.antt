use Rattle.std.proofs.Common.{arith}
use Rattle.wasm_convert.specs.Constants.{expression_of}
use Rattle.replay_spec.specs.Elements.{cell_of}
use Rattle.plan_run.specs.Evaluation.{globals_of, fields_of}
use Rattle.plan_run.proofs.OneMore.{mean-more, map-two-more}
use Rattle.plan_run.proofs.Terms.{grows-on}
use Rattle.plan_run.proofs.evaluation.Evaluator.evaluate_all.Goals as goal

pub loop-expression-preserved : goal.loop-expression-preserved
loop-expression-preserved c =
    let e = c.expression-item.result in
    let grows = c.loop-expression.invariant.grows in
    let one = rw (grows.values, grows.translation, grows.types, c.expression-item.is) at c.in_ok-value.ensures.means in
    record {
      grows = grows-on grows c.in_ok-value.ensures.grows;
      means = rw (c.in_ok-push.ensures.items, ← map-two-more (cell_of (globals_of c.args.self.now) (fields_of c.args.self.now)) expression_of c.args.expressions.now c.loop-expression.expression-index e (omega arith))
          (mean-more c.in_ok-value.ensures.grows.extends c.loop-expression.invariant.means one);
    }
