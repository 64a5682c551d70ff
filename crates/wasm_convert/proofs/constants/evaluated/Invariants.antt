-- From what the operators so far give, the remaining operators give what all of them give.
use Rattle.std.proofs.Common.{◌≡◌, [], drop}
use Rattle.replay_spec.specs.Values.{plain_step, run}
use Rattle.wasm_convert.specs.Constants.{expression_of}
use Rattle.wasm_convert.specs.Evaluation.{plain_stack}
use Rattle.wasm_convert.proofs.constants.evaluated.Given as goal

abbrev pub invariant-loop-op : goal.invariant-loop-op
invariant-loop-op l = run plain_step (expression_of l.ops) [] ≡ run plain_step (expression_of (drop l.op-index l.ops)) (plain_stack l.stack)
