use Rattle.std.proofs.Common.{◌+◌, ◌∙◌, arith}
use Rattle.std.proofs.Math.ListN.{length-set}
use Rattle.std.proofs.lemmas.List.{drop_all}
use Rattle.std.proofs.lemmas.List.Elements.{All-set}
use Rattle.plan_run.specs.Values.{NamesBelow}
use Rattle.plan_run.proofs.Terms.{names-more}
use Rattle.plan_run.proofs.Written.{simple-step}
use Rattle.plan_run.proofs.globals.write_simple.Goals as goal

pub loop-index-preserved : goal.loop-index-preserved
loop-index-preserved c =
    let old = c.loop-index.globals.items in
    let v = c.from_constant.result in
    record {
      count = length-set old (c.args.imports + c.index.result) v ∙ c.loop-index.invariant.count;
      written = λ terms. rw (c.index.ensures.number, c.loop-index-item.is) (simple-step terms c.args.imports c.args.values.now c.loop-index.index-index c.loop-index-item.result old v
          c.loop-index-test.true (rw c.loop-index-item.is at (c.from_constant.ensures.means terms)) ∙ c.loop-index.invariant.written terms);
      below = λ k all. All-set (NamesBelow k) old (c.args.imports + c.index.result) v (names-more 0 k v (omega arith) c.from_constant.ensures.plain) (c.loop-index.invariant.below k all);
    }

pub returns-clause-written : goal.returns-clause-written
returns-clause-written c = λ terms. rw (drop_all c.loop-index.index-index c.args.values.now (omega arith)) at (c.loop-index.invariant.written terms)
