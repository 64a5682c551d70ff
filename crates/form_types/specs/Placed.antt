-- The groups of a module, in which a reference is a position in the joined list, and the same
-- groups by ids.
use Rattle.std.specs.Prelude.{ℕ, List, map, slice_index}
use Rattle.wasm_spec.specs.declared.types.UnpackedIndex.{UnpackedIndex}
use Rattle.wasm_spec.specs.declared.types.UnpackedIndex.TheVariants.{Module, RecGroup, Id}
use Rattle.wasm_spec.specs.TypeData.{Group, map_group}
use Rattle.wasm_spec.specs.Module as plain
use Rattle.form_types.specs.Ids.{id_of}
use Rattle.form_types.specs.Types.{NamedGroup}

-- the position of what an index names; an index that was read is that of the module
abbrev pub place_of : UnpackedIndex → ℕ
place_of (Module place) = place
place_of (RecGroup place) = place
place_of (Id id) = id.0

abbrev pub placed : Group UnpackedIndex UnpackedIndex → Group ℕ ℕ
placed g = map_group place_of place_of g

abbrev pub placed_groups : plain.Module → List (Group ℕ ℕ)
placed_groups m = map placed (plain.groups m)

-- the id of the type at a position
abbrev pub id_at : List ℕ → ℕ → UnpackedIndex
id_at declared place = Id (id_of (slice_index declared place))

-- the group, in which each reference is the id of what it names
abbrev pub named : List ℕ → Group ℕ ℕ → NamedGroup
named declared g = map_group (id_at declared) (id_at declared) g

-- what an index names, by its id
abbrev pub named_index : List ℕ → UnpackedIndex → UnpackedIndex
named_index declared index = id_at declared (place_of index)
