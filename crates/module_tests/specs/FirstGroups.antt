-- A builder that holds the first groups of a list of types.
use Rattle.std.specs.Prelude.{◌<◌, ◌≤◌, ◌+◌, ◌*◌, ◌⊎◌, ℕ, length, IsSome}
use Rattle.form_types.specs.Types.{TypesData, TypesAreSound}
use Rattle.module_types.specs.Builder.{Builder}
use Rattle.module_types.specs.Conversion.{HoldsGroups}

pub record HoldsFirst (t : TypesData) (b : Builder) (n : ℕ) : Type 0 where
  pub sound : TypesAreSound t
  pub holds : HoldsGroups t b
  pub first : (k : ℕ) → k < n → IsSome (b.ids k)
  -- a group has less than 2 ^ 30 members, and each brings one trampoline at most
  pub few : length b.built.types ≤ n * 2147483646

-- the group with a number is the next, or the last that is held
abbrev pub IsNextOrLast : TypesData → Builder → ℕ → Type 0
IsNextOrLast t b k = HoldsFirst t b k ⊎ HoldsFirst t b (k + 1)
