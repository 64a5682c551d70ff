use Rattle.std.proofs.Common.{length}
use Rattle.rule_spec.specs.Limits.{HasLimits}
use Rattle.rule_breaks.proofs.Searching.{Passes}
use Rattle.rule_breaks.proofs.limits.first_without_limits.Given as goal

-- those so far keep the rule
abbrev pub invariant-loop-first : goal.invariant-loop-first
invariant-loop-first l = Passes HasLimits l.number l.left l.memories

abbrev pub decreases-loop-first : goal.decreases-loop-first
decreases-loop-first l = length l.left
