use Rattle.std.proofs.Common.{length}
use Rattle.translate.specs.Options.{header_size}
use Rattle.rule_breaks.proofs.Searching.{Passes}
use Rattle.plan_excess.specs.Found.{IsSmall}
use Rattle.plan_excess.proofs.objects.first_type.Given as goal

-- those so far are small
abbrev pub invariant-loop-first : goal.invariant-loop-first
invariant-loop-first l = Passes (IsSmall (header_size l.collector) l.types.types) l.number l.left l.declared

abbrev pub decreases-loop-first : goal.decreases-loop-first
decreases-loop-first l = length l.left
