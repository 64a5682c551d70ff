use Rattle.std.proofs.Common.{◌≡◌, ◌∙◌, Some, [], length, drop, ap, sym, arith}
use Rattle.std.proofs.lemmas.List.{drop_all}
use Rattle.replay_spec.specs.Values.{action, acted, run}
use Rattle.wasm_convert.specs.declared.operators.ConstOp.{ConstOp}
use Rattle.wasm_convert.specs.Constants.{expression_of}
use Rattle.plan_run.specs.Evaluation.{globals_of, fields_of}
use Rattle.plan_run.specs.Values.{values_in, terms_of}
use Rattle.plan_run.proofs.Machine.{Step, runs-more, runs-none, no-value, the-value}
use Rattle.plan_run.proofs.Terms.{grows-on}
use Rattle.plan_run.proofs.evaluation.Evaluator.evaluate.Goals as goal

pub returns-then-not-branch-clause-means : goal.returns-then-not-branch-clause-means
returns-then-not-branch-clause-means c =
    let step : Step = λ op. acted (action (globals_of c.args.self.now) (fields_of c.args.self.now) op) in
    let op : ConstOp = c.op-item.result in
    let grows = c.loop-op.invariant.grows in
    let none = runs-none step c.ops-op-items.result.now c.loop-op.op-index op op (omega arith) c.op-item.is (values_in (terms_of c.loop-op.self.nodes.items) c.loop-op.stack.items)
    (rw (grows.values, grows.translation, grows.types, c.if-not-branch.true) at c.in_ok-step.ensures.acts) in
    record { below = tt; is = sym (no-value step (expression_of c.args.expression.now) (sym c.loop-op.invariant.runs ∙ none)) }

pub loop-op-preserved : goal.loop-op-preserved
loop-op-preserved c =
    let step : Step = λ op. acted (action (globals_of c.args.self.now) (fields_of c.args.self.now) op) in
    let op : ConstOp = c.op-item.result in
    let grows = c.loop-op.invariant.grows in
    let done = rw (grows.values, grows.translation, grows.types, c.if-not-branch.false) at c.in_ok-step.ensures.acts in
    record {
      grows = grows-on grows c.in_ok-step.ensures.grows;
      stack = done.0;
      runs = runs-more step c.ops-op-items.result.now c.loop-op.op-index op op (omega arith) c.op-item.is (values_in (terms_of c.loop-op.self.nodes.items) c.loop-op.stack.items)
          (values_in (terms_of c.step.new.self.nodes.items) c.step.new.stack.items) done.1 ∙ c.loop-op.invariant.runs;
    }

pub returns-clause-means : goal.returns-clause-means
returns-clause-means c =
    let step : Step = λ op. acted (action (globals_of c.args.self.now) (fields_of c.args.self.now) op) in
    let stack = values_in (terms_of c.loop-op.self.nodes.items) c.loop-op.stack.items in
    let end : drop c.loop-op.op-index c.ops-op-items.result.now ≡ [] = drop_all c.loop-op.op-index c.ops-op-items.result.now (omega arith) in
    let runs : run step (expression_of c.args.expression.now) [] ≡ Some stack = sym c.loop-op.invariant.runs ∙ ap (λ xs. run step (expression_of xs) stack) end in
    record {
      below = c.only.ensures.below (length c.loop-op.self.nodes.items) (rw c.as_slice.ensures.value c.loop-op.invariant.stack);
      is = rw c.as_slice.ensures.value at (c.only.ensures.means (terms_of c.loop-op.self.nodes.items)) ∙ sym (the-value step (expression_of c.args.expression.now) stack runs);
    }
