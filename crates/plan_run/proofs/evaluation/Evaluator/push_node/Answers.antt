use Rattle.std.proofs.Common.{◌∙◌}
use Rattle.plan_run.proofs.Terms.{push-grows, pushed-means}
use Rattle.plan_run.proofs.evaluation.Evaluator.push_node.Goals as goal

pub returns-clause-grows : goal.returns-clause-grows
returns-clause-grows c =
    push-grows c.args.self.now _ c.push.new.self c.requires.sound (record {
      below = rw c.in_ok-args.ensures.items c.requires.below;
      converts = rw c.in_ok-args.ensures.items c.requires.converts;
    }) c.in_ok-push.ensures.items

pub returns-clause-means : goal.returns-clause-means
returns-clause-means c = rw (← c.in_ok-args.ensures.items) (pushed-means c.args.self.now.nodes.items c.push.new.self.items (record { op = c.args.op; args = c.in_ok-args.args })
    c.len-number.result c.in_ok-push.ensures.items (c.len-number.ensures ∙ c.args.self.now.nodes.ok.0))
