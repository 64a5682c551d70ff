-- How many indices are free before one.
use Rattle.std.specs.Prelude.{ℕ, zero, suc, ◌+◌, nat_eq, List, if◌then◌else◌}
use Rattle.std.specs.List.{list_any}

-- how many numbers below one are not among some
abbrev pub free_below : List ℕ → ℕ → ℕ
free_below taken zero = 0
free_below taken (suc n) = free_below taken n + (if list_any (nat_eq n) taken then 0 else 1)
