-- Steps to a multiple of a number.
use Rattle.std.specs.Prelude.{ℕ, Option, None, Some}
use Rattle.std.specs.Int.{next_multiple_of}

-- where a row begins after the rows before it end at a byte
abbrev pub begin_at : ℕ → Option ℕ → ℕ
begin_at at None = at
begin_at at (Some to) = next_multiple_of at to
