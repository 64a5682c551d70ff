-- The bytes that spell a name section without a fault (core specification, appendix, name section).
use Rattle.std.specs.Prelude.{◌≡◌, ℕ, List, [], ◌∷◌, ◌++◌, Bool, ◌==◌, ◌&&◌, Some}
use Rattle.wasm_spec.specs.Parts.{Part, ◌>>=◌, gives, unsigned, choose, first_byte, all_bytes_as, vector, sized}
use Rattle.wasm_spec.specs.Grammar.{name}
use Rattle.custom_sections.specs.NameLists.{NameLists, no_names}

-- an index and its name
abbrev pub naming : Part (ℕ × List ℕ)
naming = do
  index ← unsigned 32
  text ← name
  gives (index, text)

-- names of indices
abbrev pub name_map : Part (List (ℕ × List ℕ))
name_map = vector naming

-- a function, and the names of its locals
abbrev pub local_naming : Part (ℕ × List (ℕ × List ℕ))
local_naming = do
  function ← unsigned 32
  locals ← name_map
  gives (function, locals)

-- the names of the subsection with this id; those of locals are read where the caller requires
-- them, and skipped otherwise, as is a subsection of any higher id
abbrev pub subsection_contents : Bool → ℕ → Part NameLists
subsection_contents locals id =
    choose (id == 0) (name >>= λ text. gives (record no_names { module_name = Some text }))
    (choose (id == 1) (name_map >>= λ names. gives (record no_names { functions = names }))
    (choose ((id == 2) && locals) (vector local_naming >>= λ names. gives (record no_names { locals = names }))
    (all_bytes_as (λ bytes. no_names))))

-- an id, a size, and contents that fill it
abbrev pub name_subsection : Bool → Part NameLists
name_subsection locals = first_byte (λ id. sized (subsection_contents locals id))

-- subsections one after another, in any order
abbrev pub SpellsSubsections : Bool → List ℕ → List NameLists → Type 0
SpellsSubsections locals bytes [] = bytes ≡ []
SpellsSubsections locals bytes (names ∷ later) =
    (front : List ℕ) × (back : List ℕ) × (bytes ≡ front ++ back)
    × (name_subsection locals).spells front names × SpellsSubsections locals back later
