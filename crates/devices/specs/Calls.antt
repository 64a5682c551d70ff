-- The calls of a device that fails at listed calls.
use Rattle.std.specs.Prelude.{◌+◌, ℕ, List, Contains}
use Rattle.devices.specs.Counter.{raised_by}

-- the numbers of the calls that fail, how many calls were made, and how many of these failed
pub record Calls : Type 0 where
  pub failing : List ℕ
  pub made : ℕ
  pub faults : ℕ

-- no call was made yet
abbrev pub no_calls : List ℕ → Calls
no_calls failing = record { failing = failing; made = 0; faults = 0 }

-- the next call is one of those that fail; the first call has number 1
abbrev pub FailsNext : Calls → Type 0
FailsNext calls = Contains calls.failing (calls.made + 1)

-- one more call was made, and succeeded
abbrev pub after_success : Calls → Calls
after_success calls = record calls { made = raised_by 1 calls.made }

-- one more call was made, and failed
abbrev pub after_fault : Calls → Calls
after_fault calls = record calls { made = raised_by 1 calls.made; faults = raised_by 1 calls.faults }
