-- The declared groups of a module, interned in turn.
use Rattle.std.specs.Prelude.{◌≡◌, ◌<◌, ℕ, List, length, get_or, take, drop, slice_index}
use Rattle.std.specs.List.{fold, flat_map}
use Rattle.wasm_spec.specs.TypeData.{Group}
use Rattle.type_spec.specs.Interned.{Taken}
use Rattle.form_types.specs.Types.{TypesData}
use Rattle.module_types.specs.Builder.{Builder, interns}
use Rattle.module_types.specs.Conversion.{group_of_id, members_of, interned_members, interned_index, HoldsGroups, NamesInterned}

-- the group of an id is interned
abbrev pub interns_type : TypesData → Builder → ℕ → Builder
interns_type t b n = interns b (group_of_id t n) (interned_members t b (group_of_id t n))

-- the types of some groups are interned in turn, where the first of them is the declared type at a
-- position
abbrev pub interns_declared : TypesData → Builder → ℕ → List (Group ℕ ℕ) → Builder
interns_declared t b start gs = fold (interns_type t) b (take (length (flat_map (λ g. g) gs)) (drop start t.declared))

-- a builder holds what the definition takes, and each declared type at the index that the
-- definition gives it
pub record HasGroups (t : TypesData) (b : Builder) (s : Taken) : Type 0 where
  pub built : b.built ≡ s.built
  pub declared : (i : ℕ) → i < length s.declared → interned_index t b (slice_index t.declared i) ≡ get_or s.declared i 0

-- a group's id can be interned: it is that of a group with types, and the groups that it names
-- outside itself are held
pub record CanIntern (t : TypesData) (b : Builder) (k : ℕ) : Type 0 where
  pub known : k < length t.groups
  pub filled : 0 < length (members_of t k)
  pub holds : HoldsGroups t b
  pub named : NamesInterned t b k
