-- Reading of branch hints from left to right.
use Rattle.std.specs.Prelude.{ℕ, List, Bool, true, false, ◌==◌, Option}
use Rattle.std.specs.Result.{result_ok}
use Rattle.form_reader.specs.Reading.{Reader, ◌>>=◌, gives_at, nothing_at, choose_at, first_byte_at, whole}
use Rattle.form_reader.specs.ReadingNumbers.{unsigned_at, vector_at}
use Rattle.custom_sections.specs.declared.hints.Hint.{Hint}

abbrev pub likelihood_at : ℕ → Reader Bool
likelihood_at b = choose_at (b == 0x00) (gives_at false) (choose_at (b == 0x01) (gives_at true) nothing_at)

abbrev pub likely_at : ℕ → Reader Bool
likely_at b = choose_at (b == 0x01) (first_byte_at likelihood_at) nothing_at

unfoldable pub hint_at : Reader Hint
hint_at = do
  offset ← unsigned_at 32
  taken ← first_byte_at likely_at
  gives_at (record { func_offset = offset; taken = taken })

unfoldable pub hint_entry_at : Reader (ℕ × List Hint)
hint_entry_at = do
  function ← unsigned_at 32
  hints ← vector_at hint_at
  gives_at (function, hints)

-- what the contents of a section of hints give: all of its entries, or with a fault anywhere
-- nothing
abbrev pub hints_of_section : List ℕ → Option (List (ℕ × List Hint))
hints_of_section contents = result_ok (whole (vector_at hint_entry_at) contents)
