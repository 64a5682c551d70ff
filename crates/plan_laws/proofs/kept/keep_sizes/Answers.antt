use Rattle.std.proofs.Common.{arith}
use Rattle.plan_laws.proofs.Globals.{sized-more, sized-all}
use Rattle.plan_laws.proofs.kept.keep_sizes.Goals as goal

pub loop-value-preserved : goal.loop-value-preserved
loop-value-preserved c =
    sized-more c.args.values.now c.loop-value.value-index c.value-item.result c.loop-value-test.true c.value-item.is c.loop-value.invariant c.keeps_size.ensures

pub returns : goal.returns
returns c = sized-all c.args.values.now c.loop-value.value-index (omega arith) c.loop-value.invariant
