-- A buffer, of which the first bytes are in use.
use Rattle.std.specs.Prelude.{◌≡◌, ◌+◌, ◌≤◌, ℕ, List, ◌++◌, take}

-- a text, which takes at most so many bytes, is written behind the bytes in use: what the buffer was,
-- and where they ended, and what it is, and where they end
abbrev pub Puts : ℕ → List ℕ → List ℕ → ℕ → List ℕ → ℕ → Type 0
Puts most text old used new end = (take end new ≡ take used old ++ text) × (used ≤ end) × (end ≤ used + most)
