use Rattle.std.proofs.Common.{rules, length, ◌-◌}
use Rattle.memory_images.proofs.PassedZeros.{zeros_behind}
use Rattle.memory_images.proofs.zeros.without_last_zeros.Goals as goal

pub words-preserved : goal.words-preserved
words-preserved c =
    let parts = c.in-Some.ensures.cases in
    let zero = c.is_zero.ensures (search rules) in
    rw parts.0 (zeros_behind (length c.words.front.now - 8) c.words.invariant (rw parts.1 at zero))
