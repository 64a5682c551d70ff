-- What a record reports of the sections of a module.
use Rattle.std.specs.Prelude.{◌≡◌, ℕ, List, [], map, Option, Some, None}
use Rattle.refusal_place.specs.declared.section_list.SectionPlace.{SectionPlace}
use Rattle.refusal_place.specs.SectionList.{IsSectionList, ListsAll, name_of}
use Rattle.planner_c.specs.declared.sections.SectionRow.{SectionRow}
use Rattle.planner_c.specs.declared.sections.SectionsRecord.{SectionsRecord}

-- whether there is a name, and its bytes
abbrev pub name_row : Option (List ℕ) → ℕ × List ℕ
name_row None = (0, [])
name_row (Some text) = (1, text)

-- a section as numbers and a text
abbrev pub section_row : SectionPlace → (ℕ × ℕ × ℕ × ℕ) × (ℕ × List ℕ)
section_row p = ((p.id, p.start, p.contents, p.size), name_row (name_of p))

abbrev pub section_told : SectionRow → (ℕ × ℕ × ℕ × ℕ) × (ℕ × List ℕ)
section_told r = ((r.id, r.start, r.contents, r.size), (r.has_name, r.name.now))

-- the record reports the sections of the bytes
pub record TellsSections (bytes : List ℕ) (r : SectionsRecord) : Type 0 where
  pub places : List SectionPlace
  pub listed : IsSectionList bytes places
  pub all : ListsAll bytes places
  pub told : map section_told r.sections.now ≡ map section_row places
