-- Entries as rows of a record.
use Rattle.std.proofs.Common.{◌≡◌, List, [], ◌∷◌, map, refl, ap}
use Rattle.name_maps.specs.declared.entry.NameEntry.{NameEntry}
use Rattle.name_maps.specs.Entries.{entry_of}
use Rattle.planner_c.specs.Names.{entry_row}

-- the rows of entries, as the library has them
pub rows_of : (entries : List NameEntry) → map (λ e. entry_row (entry_of e)) entries ≡ map entry_row (map entry_of entries)
rows_of [] = refl
rows_of (e ∷ es) = ap (λ rows. entry_row (entry_of e) ∷ rows) (rows_of es)
