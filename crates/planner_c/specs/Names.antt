-- What a record reports of the name maps of a module.
use Rattle.std.specs.Prelude.{◌≡◌, ℕ, List, map, Option, Some, None}
use Rattle.name_maps.specs.Entries.{NameMapEntry}
use Rattle.name_maps.specs.Told.{TellsNames}
use Rattle.planner_c.specs.declared.names.NameEntryRow.{NameEntryRow}
use Rattle.planner_c.specs.declared.names.NameMapsRecord.{NameMapsRecord}

-- whether there is an inner index, and that index
abbrev pub inner_row : Option ℕ → ℕ × ℕ
inner_row None = (0, 0)
inner_row (Some index) = (1, index)

-- an entry as numbers and a text
abbrev pub entry_row : NameMapEntry → (ℕ × ℕ) × (ℕ × ℕ) × List ℕ
entry_row e = ((e.subsection, e.index), inner_row e.inner, e.name)

abbrev pub entry_told : NameEntryRow → (ℕ × ℕ) × (ℕ × ℕ) × List ℕ
entry_told r = ((r.subsection, r.index), (r.has_inner, r.inner), r.name.now)

-- the record reports the entries that the bytes tell, and the bytes tell no others
pub record TellsEntries (bytes : List ℕ) (r : NameMapsRecord) : Type 0 where
  pub entries : List NameMapEntry
  pub names : TellsNames bytes entries
  pub only : (other : List NameMapEntry) → TellsNames bytes other → other ≡ entries
  pub told : map entry_told r.entries.now ≡ map entry_row entries
