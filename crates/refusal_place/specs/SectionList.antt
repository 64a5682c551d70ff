-- The sections of an input, by the grammar alone, and the names of custom ones (core specification,
-- 5.5, sections and custom section).
use Rattle.std.specs.Prelude.{◌≡◌, ℕ, ◌+◌, ◌<◌, ◌≤◌, ◌^◌, List, [], ◌∷◌, ◌++◌, length, map, Option, Some, None}
use Rattle.std.specs.Option.{option_map}
use Rattle.wasm_spec.specs.Parts.{unsigned}
use Rattle.wasm_spec.specs.Module.{Module}
use Rattle.wasm_spec.specs.Grammar.{name, header, section_id, Spells}
use Rattle.refusal_place.specs.declared.section_list.SectionPlace.{SectionPlace}
use Rattle.refusal_place.specs.Places.{IsUnspelled}

-- the name of a section, where it has one
abbrev pub name_of : SectionPlace → Option (List ℕ)
name_of p = option_map (λ text. text.now) p.name

-- the fields of a section, with its name as bytes
abbrev pub fields_of : SectionPlace → ℕ × ℕ × ℕ × ℕ × Option (List ℕ)
fields_of p = (p.id, p.start, p.contents, p.size, name_of p)

-- a custom section has the name with which its contents begin; no other section has a name
abbrev pub HasName : ℕ → List ℕ → Option (List ℕ) → Type 0
HasName id contents (Some text) = (id ≡ 0) × ((front : List ℕ) × (rest : List ℕ) × (contents ≡ front ++ rest) × name.spells front text)
HasName id contents None = (id ≡ 0) → IsUnspelled name contents

-- the section at this offset: its id, its size, the contents that the size counts, and what follows
pub record IsSection (start : ℕ) (rest : List ℕ) (p : SectionPlace) (later : List ℕ) : Type 0 where
  pub number : List ℕ
  pub contents : List ℕ
  pub parts : rest ≡ p.id ∷ (number ++ (contents ++ later))
  pub size_is : (unsigned 32).spells number (length contents)
  pub places : (p.start ≡ start) × (p.contents ≡ start + 1 + length number) × (p.size ≡ length contents)
  pub name_is : HasName p.id contents (name_of p)

-- there is no id, or no size follows it, or the input ends before the contents do
abbrev pub HasNoSection : List ℕ → Type 0
HasNoSection rest = (id : ℕ) (number contents later : List ℕ) → rest ≡ id ∷ (number ++ (contents ++ later))
    → ¬ (unsigned 32).spells number (length contents)

-- sections one after another, from an offset on, up to where there is none
abbrev pub AreSections : ℕ → List ℕ → List SectionPlace → Type 0
AreSections start rest [] = HasNoSection rest
AreSections start rest (p ∷ ps) = (later : List ℕ) × IsSection start rest p later × AreSections (p.contents + p.size) later ps

-- the sections behind the header; none without a header, and in 2^30 bytes or more
pub record IsSectionList (bytes : List ℕ) (places : List SectionPlace) : Type 0 where
  pub sections : (rest : List ℕ) → bytes ≡ header ++ rest → length bytes < 2 ^ 30 → AreSections 8 rest places
  pub no_header : ((rest : List ℕ) → ¬ (bytes ≡ header ++ rest)) → places ≡ []
  pub too_long : 2 ^ 30 ≤ length bytes → places ≡ []

-- where the bytes spell a module, its sections are listed, with their ids
abbrev pub ListsAll : List ℕ → List SectionPlace → Type 0
ListsAll bytes places = (m : Module) → Spells bytes m → length bytes < 2 ^ 30 → map (λ p. p.id) places ≡ map section_id m

-- ---- what the parts of the search find

abbrev pub IsFound : ℕ → List ℕ → Option SectionPlace → Type 0
IsFound start rest (Some p) = (later : List ℕ) × IsSection start rest p later
IsFound start rest None = HasNoSection rest
