-- Reading of name sections from left to right.
use Rattle.std.specs.Prelude.{ℕ, List, [], ◌∷◌, length, Bool, true, false, ◌==◌, Option, Some, None, Result, Ok, Err, if◌then◌else◌}
use Rattle.form_reader.specs.Reading.{Fault, whole}
use Rattle.form_reader.specs.ReadingNumbers.{name_at}
use Rattle.custom_sections.specs.NameReading.{Partly, elements_before, vector_before, names_before, locals_before, is_filled, sized_subsection_at}
use Rattle.name_maps.specs.Entries.{NameMapEntry, map_entries, indirect_entries, module_entry, all_entries}
use Rattle.name_maps.specs.NameMaps.{is_indirect, has_map}

-- the bytes that remain, where there was no fault
abbrev pub left_of : Bool → List ℕ → Option (List ℕ)
left_of true rest = Some rest
left_of false rest = None

-- the entries of a part, and whether they fill it without a fault
abbrev pub module_read : ℕ → Result (List ℕ) Fault → List NameMapEntry × Bool
module_read id (Ok text) = (module_entry id text ∷ [], true)
module_read id (Err fault) = ([], false)

abbrev pub map_read : ℕ → List (ℕ × List ℕ) × Option (List ℕ) → List NameMapEntry × Bool
map_read id names = (map_entries id names.0, is_filled names.1)

abbrev pub indirect_read : ℕ → List (ℕ × List (ℕ × List ℕ)) × Option (List ℕ) → List NameMapEntry × Bool
indirect_read id maps = (indirect_entries id maps.0, is_filled maps.1)

-- the entries of the subsection with this id
unfoldable pub contents_read : ℕ → List ℕ → List NameMapEntry × Bool
contents_read id contents =
    if id == 0 then module_read id (whole name_at contents)
    else (if is_indirect id then indirect_read id (vector_before locals_before contents)
    else (if has_map id then map_read id (names_before contents)
    else ([], true)))

-- a subsection's entries, and the bytes after it where it has no fault
abbrev pub subsection_and : List NameMapEntry × Bool → List ℕ → Option (List NameMapEntry) × Option (List ℕ)
subsection_and read rest = (Some read.0, left_of read.1 rest)

abbrev pub sized_read : Result ((ℕ × List ℕ) × List ℕ) Fault → Option (List NameMapEntry) × Option (List ℕ)
sized_read (Ok x) = subsection_and (contents_read x.0.0 x.0.1) x.1
sized_read (Err fault) = (None, None)

abbrev pub subsection_before : Partly (List NameMapEntry)
subsection_before bytes = sized_read (sized_subsection_at bytes)

-- the entries of at most n subsections, up to a fault
abbrev pub subsections_before : ℕ → List ℕ → List NameMapEntry
subsections_before n bytes = all_entries (elements_before subsection_before n bytes).0

abbrev pub entries_behind : ℕ → Result (List ℕ × List ℕ) Fault → List NameMapEntry
entries_behind n (Ok title) = subsections_before n title.1
entries_behind n (Err fault) = []

-- the entries of a name section
unfoldable pub section_entries : List ℕ → List NameMapEntry
section_entries contents = entries_behind (length contents) (name_at contents)
