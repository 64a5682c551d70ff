-- The lines of the layout of a context.
use Rattle.std.specs.Prelude.{ℕ, List, ◌++◌, codes}
use Rattle.plan_lines.specs.Numbers.{named_number}

-- a region: its size, and what it holds
unfoldable pub region_line : List ℕ × ℕ → List ℕ
region_line region = named_number (codes "region") region.1 ++ codes " " ++ region.0 ++ codes "\n"
