use Rattle.std.proofs.Common.{List, length}
use Rattle.replay_spec.specs.Values as plain
use Rattle.replay_spec.specs.Values.{action}
use Rattle.wasm_convert.specs.Operators.{operator_of}
use Rattle.plan_run.specs.Evaluation.{globals_of}
use Rattle.plan_run.specs.Values.{values_in, terms_of}
use Rattle.plan_run.proofs.Machine.{option-means}
use Rattle.plan_run.proofs.evaluation.Evaluator.make.Goals as goal

pub returns-in-Simple-clause-means : goal.returns-in-Simple-clause-means
returns-in-Simple-clause-means c = λ fields.
    let e = c.args.self.now in
    let nodes = e.nodes.items in
    let globals : List plain.Value = globals_of e in
    option-means nodes c.simple.result ((action globals fields (operator_of c.args.op)).makes (values_in (terms_of nodes) c.args.args.now))
    (rw c.deref.ensures.value at (c.simple.ensures.means (terms_of nodes) fields)) (c.simple.ensures.below (length nodes) (rw c.deref.ensures.value c.requires.sound.globals))
