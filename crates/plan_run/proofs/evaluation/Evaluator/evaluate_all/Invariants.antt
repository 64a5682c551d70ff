use Rattle.std.proofs.Common.{map, take}
use Rattle.wasm_convert.specs.Constants.{expression_of}
use Rattle.replay_spec.specs.Elements.{cell_of}
use Rattle.plan_run.specs.Evaluation.{globals_of, fields_of, Grows}
use Rattle.plan_run.specs.Nodes.{AllMean}
use Rattle.plan_run.proofs.evaluation.Evaluator.evaluate_all.Given as goal

abbrev pub invariant-loop-expression : goal.invariant-loop-expression
invariant-loop-expression l = record {
  grows : Grows l.fn.self l.self;
  means : AllMean l.self.nodes.items l.items.items (map (cell_of (globals_of l.fn.self) (fields_of l.fn.self)) (map expression_of (take l.expression-index l.expressions)));
}
