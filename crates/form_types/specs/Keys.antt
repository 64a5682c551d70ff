-- Canonical groups as they are looked up.
use Rattle.std.specs.Prelude.{◌≡◌, ℕ, List, ◌++◌, map, slice_index}
use Rattle.wasm_spec.specs.declared.types.UnpackedIndex.{UnpackedIndex}
use Rattle.wasm_spec.specs.declared.types.UnpackedIndex.TheVariants.{RecGroup, Id}
use Rattle.wasm_spec.specs.TypeData.{Group, group_edges}
use Rattle.type_spec.specs.Equality.{Target, Inside, Earlier, target}
use Rattle.form_types.specs.Codes.{group_codes}
use Rattle.form_types.specs.Placed.{place_of}
use Rattle.form_types.specs.Ids.{id_of}
use Rattle.form_types.specs.declared.canonical.CanonicalGroup.{CanonicalGroup}

-- a position in the group, or the id of an earlier type
abbrev pub index_of : Target ℕ → UnpackedIndex
index_of (Inside place) = RecGroup place
index_of (Earlier id) = Id (id_of id)

-- the frame, and what the references name
pub record GroupKey : Type 0 where
  pub codes : List ℕ
  pub references : List UnpackedIndex

abbrev pub group_key : Group (Target ℕ) (Target ℕ) → GroupKey
group_key g = record { codes = group_codes g; references = map index_of (group_edges (λ t. t) g) }

-- a group as it was read
abbrev pub read_key : Group UnpackedIndex UnpackedIndex → GroupKey
read_key g = record { codes = group_codes g; references = group_edges (λ i. i) g }

abbrev pub key_of : CanonicalGroup → GroupKey
key_of key = record { codes = key.frame.items; references = key.references.items }

-- what an index names in a group that starts at a position
abbrev pub canonical_index : List ℕ → ℕ → UnpackedIndex → UnpackedIndex
canonical_index ids start index = index_of (target (slice_index ids) start (place_of index))

-- ---- while a key is made

-- what the references of a part name
abbrev pub targets : List ℕ → ℕ → List UnpackedIndex → List UnpackedIndex
targets ids start edges = map (canonical_index ids start) edges

pub record AddsToKey (old new : CanonicalGroup) (codes : List ℕ) (references : List UnpackedIndex) : Type 0 where
  pub frame : new.frame.items ≡ old.frame.items ++ codes
  pub names : new.references.items ≡ old.references.items ++ references
