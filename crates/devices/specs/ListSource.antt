-- A source that gives a list of bytes piece by piece, and fails at listed reads.
use Rattle.std.specs.Prelude.{ℕ, List}
use Rattle.devices.specs.Calls.{Calls}

-- the bytes that remain, the most that one read gives, and the reads that were made
pub record ListSource : Type 0 where
  pub left : List ℕ
  pub piece : ℕ
  pub calls : Calls
