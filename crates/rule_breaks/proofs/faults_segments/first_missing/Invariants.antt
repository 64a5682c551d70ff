use Rattle.std.proofs.Common.{length}
use Rattle.rule_breaks.proofs.FirstPast.{MissingRemains}
use Rattle.rule_breaks.proofs.faults_segments.first_missing.Given as goal

-- what is missing among those that remain is missing among all
abbrev pub invariant-loop-first : goal.invariant-loop-first
invariant-loop-first l = MissingRemains l.count l.left l.indices

abbrev pub decreases-loop-first : goal.decreases-loop-first
decreases-loop-first l = length l.left
