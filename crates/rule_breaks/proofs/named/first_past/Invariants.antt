use Rattle.std.proofs.Common.{length}
use Rattle.rule_breaks.proofs.FirstPast.{Remains}
use Rattle.rule_breaks.proofs.named.first_past.Given as goal

-- what is found among those that remain is found among all
abbrev pub invariant-loop-first : goal.invariant-loop-first
invariant-loop-first g l = Remains l.bound g.T.NamesTypes.named l.left l.things

abbrev pub decreases-loop-first : goal.decreases-loop-first
decreases-loop-first g l = length l.left
