-- Bytes without the zeros at one end.
use Rattle.std.specs.Prelude.{◌≡◌, ℕ, List, ◌++◌, All}

-- zeros, followed by these bytes
pub record ZerosAnd (bytes rest : List ℕ) : Type 0 where
  pub zeros : List ℕ
  pub parts : bytes ≡ zeros ++ rest
  pub are_zero : All (λ b. b ≡ 0) zeros

-- these bytes, followed by zeros
pub record AndZeros (bytes front : List ℕ) : Type 0 where
  pub zeros : List ℕ
  pub parts : bytes ≡ front ++ zeros
  pub are_zero : All (λ b. b ≡ 0) zeros
