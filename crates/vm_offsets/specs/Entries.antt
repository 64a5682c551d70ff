-- The table and the entries as the code stores them: without descriptions.
use Rattle.std.specs.Prelude.{◌≡◌, ℕ, List, [], ◌∷◌, map, Option, None, Some}
use Rattle.vm_offsets.specs.declared.table.ContextEntry.{ContextEntry}
use Rattle.vm_offsets.specs.declared.row.SizedRow.{SizedRow}
use Rattle.vm_offsets.specs.Context.{ContextRow, align, entry, Placed}

-- rows without their descriptions
abbrev pub without_texts : List ContextRow → List ContextRow
without_texts [] = []
without_texts (align to ∷ rows) = align to ∷ without_texts rows
without_texts (entry description count size ∷ rows) = entry [] count size ∷ without_texts rows

-- a step, if there is one, before the others
abbrev pub after_step : Option ℕ → List ContextRow → List ContextRow
after_step None rows = rows
after_step (Some to) rows = align to ∷ rows

-- the rows that are kept, of which each has the step before it
abbrev pub rows_of : List SizedRow → List ContextRow
rows_of [] = []
rows_of (row ∷ rows) = after_step row.align (entry [] row.count row.size ∷ rows_of rows)

-- a row has these parts
pub record IsRow (row : SizedRow) (step : Option ℕ) (count size : ℕ) : Type 0 where
  pub stepped : row.align ≡ step
  pub counted : row.count ≡ count
  pub sized : row.size ≡ size

-- the position of an entry: its first byte, its stride and its count
abbrev pub kept_extent : ContextEntry → ℕ × ℕ × ℕ
kept_extent kept = (kept.begin, kept.stride, kept.count)

abbrev pub placed_extent : Placed → ℕ × ℕ × ℕ
placed_extent placed = (placed.begin, placed.stride, placed.count)

-- the entries that are kept are at the positions of those of a layout
abbrev pub KeepsEntries : List ContextEntry → List Placed → Type 0
KeepsEntries kept placed = map kept_extent kept ≡ map placed_extent placed
