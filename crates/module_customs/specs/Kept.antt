-- Which names and hints of a section are kept.
use Rattle.std.specs.Prelude.{ℕ, List, reverse, ◌==◌, nat_eq, Option, None, if◌then◌else◌}
use Rattle.std.specs.Map.{lookup}

-- the value of the last entry of an index
abbrev pub last_at : {X : Type 0} → List (ℕ × X) → ℕ → Option X
last_at entries index = lookup (nat_eq index) (reverse entries)

-- the value of the first entry of an index
abbrev pub first_at : {X : Type 0} → List (ℕ × X) → ℕ → Option X
first_at entries index = lookup (nat_eq index) entries

-- the number that represents no function
abbrev pub no_function : ℕ
no_function = 4294967295

-- the first entry of a function counts
unfoldable pub kept_hint : {H : Type 0} → List (ℕ × H) → ℕ → Option H
kept_hint entries function = if function == no_function then None else first_at entries function
