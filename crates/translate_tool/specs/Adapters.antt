-- A reader as a source and a writer as a sink.
use Rattle.std.specs.Prelude.{ℕ, List, Option}

-- the reader, what it reports, how many reads failed, and how many were made since the first that
-- moved no byte, if one did
pub record Reading (R : Type 0) : Type 0 where
  pub reader : R
  pub told : Option (List ℕ)
  pub faults : ℕ
  pub since_end : Option ℕ

-- the writer, what it reports, and how many writes failed
pub record Writing (W : Type 0) : Type 0 where
  pub writer : W
  pub told : Option (List ℕ)
  pub faults : ℕ
