-- Texts in one buffer.
use Rattle.std.specs.Prelude.{ℕ, ◌≤◌, List}
use Rattle.std.specs.List.{slice_range}
use Rattle.std.specs.Str.{IsCharBoundary}
use Rattle.entity_map.specs.declared.texts.TextRange.{TextRange}

-- the text of a range in a buffer
abbrev pub text_in : List ℕ → TextRange → List ℕ
text_in buffer place = slice_range buffer place.start place.end

-- a range holds a text
pub record IsTextRange (buffer : List ℕ) (place : TextRange) : Type 0 where
  pub ordered : place.start ≤ place.end
  pub from : IsCharBoundary buffer place.start
  pub to : IsCharBoundary buffer place.end
