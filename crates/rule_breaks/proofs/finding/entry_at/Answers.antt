use Rattle.std.proofs.Common.{rules}
use Rattle.rule_breaks.proofs.Numbered.{remaining_all, passed, reached, ran_out}
use Rattle.rule_breaks.proofs.finding.entry_at.Goals as goal

pub loop-found-init : goal.loop-found-init
loop-found-init g c = remaining_all _ _ _ (search rules)

pub loop-found-preserved : goal.loop-found-preserved
loop-found-preserved g c = passed _ _ _ _ _ _ c.loop-found.invariant c.in-Some.ensures.steps c.if-left-eq0.false

pub returns-then-left-eq0 : goal.returns-then-left-eq0
returns-then-left-eq0 g c = reached _ _ _ _ _ _ c.loop-found.invariant c.in-Some.ensures.steps c.if-left-eq0.true

pub returns : goal.returns
returns g c = ran_out _ _ _ _ c.loop-found.invariant c.in-None.ensures.steps.0
