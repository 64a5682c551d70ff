-- Items that are written over a list.
use Rattle.std.specs.Prelude.{ℕ, ◌+◌, List, ◌++◌, length, take, drop}

-- the items from a position on are these, and all others stay
abbrev pub written : {A : Type 0} → ℕ → List A → List A → List A
written at items old = take at old ++ (items ++ drop (at + length items) old)
