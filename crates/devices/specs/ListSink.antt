-- A sink that holds bytes up to its capacity, and fails at listed writes.
use Rattle.std.specs.Prelude.{◌≡◌, ℕ, List, length}
use Rattle.devices.specs.Calls.{Calls}

-- the bytes held, the capacity, the most that one write takes, and the writes that were made
pub record ListSink : Type 0 where
  pub held : List ℕ
  pub room : ℕ
  pub most : ℕ
  pub calls : Calls

-- no capacity remains
abbrev pub IsFull : ListSink → Type 0
IsFull sink = length sink.held ≡ sink.room
