use Rattle.std.proofs.Common.{refl}
use Rattle.rule_spec.specs.Limits.{HasLimits}
use Rattle.rule_breaks.proofs.Searching.{empty, passes_none, passes_all, passes_more, passes_fails}
use Rattle.rule_breaks.proofs.limits.first_without_limits.Goals as goal

pub loop-first-init : goal.loop-first-init
loop-first-init c = passes_none _ _ _ refl

pub loop-first-preserved : goal.loop-first-preserved
loop-first-preserved c =
    passes_more HasLimits _ _ _ _ _ c.loop-first.invariant c.in-Some.ensures.cases.0 _ c.in_ok-number.ensures (c.has_limits.ensures.0 c.if-not-has_limits.false)

pub returns-then-not-has_limits : goal.returns-then-not-has_limits
returns-then-not-has_limits c =
    passes_fails HasLimits _ _ _ _ _ c.loop-first.invariant c.in-Some.ensures.cases.0 _ c.if-not-has_limits.true c.has_limits.ensures

pub returns : goal.returns
returns c = passes_all HasLimits _ _ _ c.loop-first.invariant (empty _ c.in_default.ensures.cases)
