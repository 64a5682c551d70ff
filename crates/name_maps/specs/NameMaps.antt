-- The entries that a name section tells up to its first fault (core specification, appendix, name
-- section; extended name section for labels, tables, memories, globals and segments).
use Rattle.std.specs.Prelude.{ℕ, List, [], ◌∷◌, Bool, nat_le, ◌==◌, ◌||◌}
use Rattle.wasm_spec.specs.Parts.{Part, ◌>>=◌, gives, choose, first_byte, all_bytes_as, vector, sized}
use Rattle.wasm_spec.specs.Grammar.{name}
use Rattle.custom_sections.specs.NameGrammar.{name_map, local_naming}
use Rattle.custom_sections.specs.CutNames.{otherwise, tells_nothing, elements_told, vector_told, namings_told, cut_local_naming}
use Rattle.name_maps.specs.Entries.{NameMapEntry, map_entries, indirect_entries, module_entry, all_entries}

-- locals and labels of functions, and fields of types
abbrev pub is_indirect : ℕ → Bool
is_indirect id = (id == 2) || ((id == 3) || (id == 10))

-- functions, types, tables, memories, globals, element and data segments, and tags
abbrev pub has_map : ℕ → Bool
has_map id = nat_le id 11

-- the contents of the subsection with this id; one of any higher id is skipped
abbrev pub subsection_contents : ℕ → Part (List NameMapEntry)
subsection_contents id =
    choose (id == 0) (name >>= λ text. gives (module_entry id text ∷ []))
    (choose (is_indirect id) (vector local_naming >>= λ maps. gives (indirect_entries id maps))
    (choose (has_map id) (name_map >>= λ names. gives (map_entries id names))
    (all_bytes_as (λ bytes. []))))

-- an id, a size, and contents that fill it
abbrev pub subsection : Part (List NameMapEntry)
subsection = first_byte (λ id. sized (subsection_contents id))

-- the contents of a subsection that have a fault: the entries before it
abbrev pub cut_contents : ℕ → Part (List NameMapEntry)
cut_contents id =
    choose (id == 0) tells_nothing
    (choose (is_indirect id) (vector_told local_naming cut_local_naming >>= λ maps. gives (indirect_entries id maps))
    (choose (has_map id) (namings_told >>= λ names. gives (map_entries id names)) tells_nothing))

-- a subsection that has a fault, and whatever follows: the entries before the fault
abbrev pub cut_subsection : Part (List (List NameMapEntry))
cut_subsection = otherwise (first_byte (λ id. sized (cut_contents id)) >>= λ entries. all_bytes_as (λ rest. entries ∷ [])) tells_nothing

-- at most n subsections, up to the first fault
abbrev pub subsections_told : ℕ → Part (List NameMapEntry)
subsections_told n = elements_told subsection cut_subsection n >>= λ parts. gives (all_entries parts)

-- the contents of a custom section of n bytes: its name, and subsections; none of these is empty,
-- so there are at most as many as bytes
abbrev pub name_section : ℕ → Part (List NameMapEntry)
name_section n = name >>= λ title. subsections_told n
