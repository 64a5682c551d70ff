-- Contents of name sections, for the worked examples.
use Rattle.std.specs.Prelude.{ℕ, List, [], ◌∷◌, ◌++◌, codes, Option, Some, None}
use Rattle.wasm_spec.specs.Grammar.{header}
use Rattle.name_maps.specs.Entries.{NameMapEntry}

-- the names of two globals, of which the second is cut
abbrev pub cut_globals : List ℕ
cut_globals = 0x07 ∷ 0x06 ∷ 0x02 ∷ 0x00 ∷ 0x01 ∷ 0x61 ∷ 0x01 ∷ 0x05 ∷ []

abbrev pub first_global : NameMapEntry
first_global = record { subsection = 7; index = 0; inner = None; name = codes "a" }

-- label 2 of function 3, and a name that is cut
abbrev pub cut_labels : List ℕ
cut_labels = 0x03 ∷ 0x07 ∷ 0x01 ∷ 0x03 ∷ 0x02 ∷ 0x02 ∷ 0x01 ∷ 0x78 ∷ 0x01 ∷ []

abbrev pub first_label : NameMapEntry
first_label = record { subsection = 3; index = 3; inner = Some 2; name = codes "x" }

-- a subsection with id 12, and the name of the module
abbrev pub skipped_first : List ℕ
skipped_first = 0x0C ∷ 0x01 ∷ 0xFF ∷ 0x00 ∷ 0x02 ∷ 0x01 ∷ 0x6D ∷ []

abbrev pub of_module : NameMapEntry
of_module = record { subsection = 0; index = 0; inner = None; name = codes "m" }

-- a custom section with the name "name" and the names of globals
abbrev pub named_bytes : List ℕ
named_bytes = header ++ 0x00 ∷ 0x0D ∷ 0x04 ∷ 0x6E ∷ 0x61 ∷ 0x6D ∷ 0x65 ∷ cut_globals

-- its row, where it has this name
abbrev pub row_with : List ℕ → ℕ × ℕ × ℕ × ℕ × Option (List ℕ)
row_with title = (0, 8, 10, 13, Some title)
