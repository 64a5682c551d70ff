use Rattle.std.proofs.Common.{rules}
use Rattle.memory_images.proofs.PassedZeros.{zeros_before}
use Rattle.memory_images.proofs.zeros.without_first_zeros.Goals as goal

pub words-preserved : goal.words-preserved
words-preserved c =
    let parts = c.in-Some.ensures.cases in
    let zero = c.is_zero.ensures (search rules) in
    rw parts.1 (zeros_before 8 c.words.invariant (rw parts.0 at zero))
