use Rattle.std.proofs.Common.{◌≡◌}
use Rattle.free_numbers.specs.Counts.{before}
use Rattle.free_numbers.proofs.numbers.sum.Given as goal

abbrev pub invariant-loop-count : goal.invariant-loop-count
invariant-loop-count l = l.sum ≡ before l.count-index l.counts
