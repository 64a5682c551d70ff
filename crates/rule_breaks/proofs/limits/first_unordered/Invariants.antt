use Rattle.std.proofs.Common.{length}
use Rattle.rule_spec.specs.Limits.{IsOrdered}
use Rattle.rule_breaks.proofs.Searching.{Passes}
use Rattle.rule_breaks.proofs.limits.first_unordered.Given as goal

-- those so far keep the rule
abbrev pub invariant-loop-first : goal.invariant-loop-first
invariant-loop-first l = Passes IsOrdered l.number l.left l.tables

abbrev pub decreases-loop-first : goal.decreases-loop-first
decreases-loop-first l = length l.left
