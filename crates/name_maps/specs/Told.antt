-- The entries that the name sections of an input tell.
use Rattle.std.specs.Prelude.{◌≡◌, ℕ, List, [], ◌∷◌, ◌++◌, take, drop, codes, Bool, false, Option, Some, None}
use Rattle.std.specs.Str.{bytes_eq}
use Rattle.wasm_spec.specs.Parts.{Part, choose}
use Rattle.custom_sections.specs.CutNames.{tells_nothing}
use Rattle.refusal_place.specs.declared.section_list.SectionPlace.{SectionPlace}
use Rattle.refusal_place.specs.SectionList.{IsSectionList, ListsAll, name_of}
use Rattle.name_maps.specs.Entries.{NameMapEntry}
use Rattle.name_maps.specs.NameMaps.{name_section}

-- the bytes that the size of a section counts
abbrev pub contents_of : List ℕ → SectionPlace → List ℕ
contents_of bytes p = take p.size (drop p.contents bytes)

-- a name section is a custom section with this name
abbrev pub is_named : Option (List ℕ) → Bool
is_named None = false
is_named (Some title) = bytes_eq title (codes "name")

-- the entries of a section: only a name section has any
abbrev pub section_told : SectionPlace → Part (List NameMapEntry)
section_told p = choose (is_named (name_of p)) (name_section p.size) tells_nothing

-- the entries of one section after another
abbrev pub SectionsTell : List ℕ → List SectionPlace → List NameMapEntry → Type 0
SectionsTell bytes [] entries = entries ≡ []
SectionsTell bytes (p ∷ ps) entries =
    (front : List NameMapEntry) × (back : List NameMapEntry) × (entries ≡ front ++ back)
    × (section_told p).spells (contents_of bytes p) front × SectionsTell bytes ps back

-- the entries of the name sections of the bytes, in their order
pub record TellsNames (bytes : List ℕ) (entries : List NameMapEntry) : Type 0 where
  pub places : List SectionPlace
  pub listed : IsSectionList bytes places
  pub all : ListsAll bytes places
  pub told : SectionsTell bytes places entries
