use Rattle.std.proofs.Common.{◌≡◌, length, drop, All, []}
use Rattle.replay_spec.specs.Values.{acted, action, run}
use Rattle.wasm_convert.specs.Constants.{expression_of}
use Rattle.plan_run.specs.Evaluation.{globals_of, fields_of, Grows}
use Rattle.plan_run.specs.Values.{values_in, terms_of, NamesBelow}
use Rattle.plan_run.proofs.evaluation.Evaluator.evaluate.Given as goal

-- what remains leaves on the stack what all operators leave
abbrev pub invariant-loop-op : goal.invariant-loop-op
invariant-loop-op l = record {
  grows : Grows l.fn.self l.self;
  stack : All (NamesBelow (length l.self.nodes.items)) l.stack.items;
  runs : run (λ op. acted (action (globals_of l.fn.self) (fields_of l.fn.self) op)) (expression_of (drop l.op-index l.op-items)) (values_in (terms_of l.self.nodes.items) l.stack.items)
      ≡ run (λ op. acted (action (globals_of l.fn.self) (fields_of l.fn.self) op)) (expression_of l.expression) [];
}
