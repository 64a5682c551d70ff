use Rattle.std.proofs.Common.{length, arith}
use Rattle.plan_run.specs.Values.{terms_of}
use Rattle.plan_run.proofs.Terms.{all-names-more}
use Rattle.plan_run.proofs.evaluation.Evaluator.items_of.Goals as goal

pub returns-in_ok-items-in-Functions-clause-means : goal.returns-in_ok-items-in-Functions-clause-means
returns-in_ok-items-in-Functions-clause-means c =
    rw c.in-Functions.is (record {
      below = all-names-more 0 (length c.args.self.now.nodes.items) c.in_ok-items-in-Functions.items.items (omega arith) c.in_ok-items-in-Functions.ensures.plain;
      are = rw c.deref.ensures.value at (c.in_ok-items-in-Functions.ensures.means (terms_of c.args.self.now.nodes.items));
    })
