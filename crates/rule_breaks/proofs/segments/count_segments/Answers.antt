use Rattle.std.proofs.Common.{length, refl, ap, arith}
use Rattle.form_rules.proofs.Taking.{taken}
use Rattle.form_rules.proofs.Walking.{all_counted}
use Rattle.rule_breaks.proofs.segments.count_segments.Goals as goal

pub loop-walk-preserved : goal.loop-walk-preserved
loop-walk-preserved c =
    let at = taken _ _ _ _ _ c.if-branch.true c.in_ok-advance.ensures refl in
    omega (arith, ap length at, c.loop-walk.invariant, c.in_ok-count.ensures)

pub returns : goal.returns
returns c = all_counted _ _ _ _ _ _ c.if-branch.false c.in_ok-advance.ensures c.loop-walk.invariant
