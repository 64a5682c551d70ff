use Rattle.std.proofs.Common.{length}
use Rattle.memory_images.specs.Zeros.{ZerosAnd}
use Rattle.memory_images.proofs.zeros.without_first_zeros.Given as goal

abbrev pub invariant-words : goal.invariant-words
invariant-words l = ZerosAnd l.bytes l.rest

abbrev pub decreases-words : goal.decreases-words
decreases-words l = length l.rest
