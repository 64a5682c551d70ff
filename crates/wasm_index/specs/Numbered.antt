-- How a contract views an index.
use Rattle.std.specs.Prelude.{ℕ}

-- a number in the list that `Space` names
pub record Numbered (Space : Type 0) : Type 0 where
  pub number : ℕ
