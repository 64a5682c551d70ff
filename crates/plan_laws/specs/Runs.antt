-- Two sinks that were given the same.
use Rattle.std.specs.Prelude.{ℕ, List, Option}
use Rattle.devices.specs.Device.{AppendsFront}

-- one text was appended to the bytes of both, where they are told
pub record GainAlike (before after other_before other_after : Option (List ℕ)) : Type 0 where
  pub text : List ℕ
  pub one : AppendsFront before text after
  pub other : AppendsFront other_before text other_after
