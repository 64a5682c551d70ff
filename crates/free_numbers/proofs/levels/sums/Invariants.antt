use Rattle.std.proofs.Common.{◌≡◌, ◌≤◌, ◌++◌, length}
use Rattle.free_numbers.specs.Counts.{total, pair_sums}
use Rattle.free_numbers.proofs.levels.sums.Given as goal

abbrev pub invariant-loop-sum : goal.invariant-loop-sum
invariant-loop-sum l = (l.sums.items ++ pair_sums l.rest ≡ pair_sums l.counts) × (total l.rest ≤ total l.counts)

abbrev pub decreases-loop-sum : goal.decreases-loop-sum
decreases-loop-sum l = length l.rest
