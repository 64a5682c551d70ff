use Rattle.std.proofs.Common.{length}
use Rattle.memory_images.specs.Zeros.{AndZeros}
use Rattle.memory_images.proofs.zeros.without_last_zeros.Given as goal

abbrev pub invariant-words : goal.invariant-words
invariant-words l = AndZeros l.bytes l.front

abbrev pub decreases-words : goal.decreases-words
decreases-words l = length l.front
