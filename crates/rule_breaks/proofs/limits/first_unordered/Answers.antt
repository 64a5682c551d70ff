use Rattle.std.proofs.Common.{refl}
use Rattle.rule_spec.specs.Limits.{IsOrdered}
use Rattle.rule_breaks.proofs.Searching.{empty, passes_none, passes_all, passes_more, passes_fails}
use Rattle.rule_breaks.proofs.limits.first_unordered.Goals as goal

pub loop-first-init : goal.loop-first-init
loop-first-init c = passes_none _ _ _ refl

pub loop-first-preserved : goal.loop-first-preserved
loop-first-preserved c =
    passes_more IsOrdered _ _ _ _ _ c.loop-first.invariant c.in-Some.ensures.cases.0 _ c.in_ok-number.ensures (c.is_ordered.ensures.0 c.if-not-is_ordered.false)

pub returns-then-not-is_ordered : goal.returns-then-not-is_ordered
returns-then-not-is_ordered c =
    passes_fails IsOrdered _ _ _ _ _ c.loop-first.invariant c.in-Some.ensures.cases.0 _ c.if-not-is_ordered.true c.is_ordered.ensures

pub returns : goal.returns
returns c = passes_all IsOrdered _ _ _ c.loop-first.invariant (empty _ c.in_default.ensures.cases)
