use Rattle.std.proofs.Common.{◌-◌, ◌∙◌, drop, ap, arith}
use Rattle.replay_spec.specs.Values.{action}
use Rattle.wasm_convert.specs.Operators.{operator_of}
use Rattle.plan_run.specs.Evaluation.{globals_of, fields_of}
use Rattle.plan_run.proofs.Machine.{acts-none, acts-some}
use Rattle.plan_run.proofs.evaluation.Evaluator.step.Goals as goal

pub returns-in-None-clause-acts : goal.returns-in-None-clause-acts
returns-in-None-clause-acts c =
    let nodes = c.args.self.now.nodes.items in
    let fields = fields_of c.args.self.now in
    let globals = globals_of c.args.self.now in
    let takes = c.taken-takes.result in
    acts-none (action globals fields (operator_of c.args.op)) nodes c.args.stack.now.items c.split_at.result.1.now takes (c.len-2.result - takes) (c.taken-takes.ensures globals)
    (omega arith) (omega arith) (c.split_at.ensures.back ∙ ap (drop (c.len-2.result - takes)) c.as_slice.ensures.value) (rw c.in-None.is at (c.in_ok-make.ensures.means fields))

pub returns-in_ok-push-in-Some-clause-acts : goal.returns-in_ok-push-in-Some-clause-acts
returns-in_ok-push-in-Some-clause-acts c =
    let nodes = c.args.self.now.nodes.items in
    let fields = fields_of c.args.self.now in
    let globals = globals_of c.args.self.now in
    let takes = c.taken-takes.result in
    acts-some (action globals fields (operator_of c.args.op)) nodes c.args.stack.now.items c.split_at.result.1.now takes (c.len-2.result - takes) (c.taken-takes.ensures globals)
    (omega arith) (omega arith) (c.split_at.ensures.back ∙ ap (drop (c.len-2.result - takes)) c.as_slice.ensures.value)
    c.make.new.self.nodes.items c.truncate.new.self.items c.push.new.self.items c.in-Some.value c.in_ok-make.ensures.grows.extends c.requires.stack c.truncate.ensures.items
    c.in_ok-push-in-Some.ensures.items (rw c.in-Some.is at (c.in_ok-make.ensures.means fields))
