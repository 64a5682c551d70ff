-- A counter that is raised.
use Rattle.std.proofs.Common.{ℕ, arith}
use Rattle.devices.specs.Counter.{raised_by, Rose}

-- a counter that is raised by one rose, or is at its last value
pub Rose-raised : (count : ℕ) → Rose count (raised_by 1 count)
Rose-raised count = grind arith
