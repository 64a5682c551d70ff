-- The groups of a module's types, numbered as they are read.
use Rattle.std.specs.Prelude.{◌≡◌, ◌≢◌, ◌↔◌, ℕ, ◌+◌, ◌-◌, ◌^◌, ◌<◌, ◌≤◌, List, [], length, get_or, map, Option, Some, None, All, IsTrue, slice_index}
use Rattle.std.specs.List.{flat_map, AllPairs}
use Rattle.wasm_spec.specs.declared.types.UnpackedIndex.{UnpackedIndex}
use Rattle.wasm_spec.specs.declared.types.UnpackedIndex.TheVariants.{Id}
use Rattle.wasm_spec.specs.TypeData.{Group, SubType, map_group, group_edges}
use Rattle.wasm_spec.specs.Sizes.{HasShortLists}
use Rattle.rule_spec.specs.Lists.{declared_groups}
use Rattle.type_spec.specs.Equality.{Target, Inside, Earlier, Home, home, canonical}
use Rattle.form_reader.specs.Views.{group_of}
use Rattle.form_types.specs.declared.numbering.Numbering.{Numbering}
use Rattle.form_types.specs.declared.canonical.CanonicalGroup.{CanonicalGroup}
use Rattle.form_types.specs.Ids.{id_of}
use Rattle.form_types.specs.Types.{NamedGroup, types_by_id, NameEarlier}
use Rattle.form_types.specs.Numbered.{first_id}
use Rattle.form_types.specs.Placed.{placed}
use Rattle.form_types.specs.EarlierTypes.{ids_of}
use Rattle.form_types.specs.Keys.{GroupKey, group_key, key_of}
use Rattle.form_types.specs.Finding.{first_of}
use Rattle.form_types.specs.Distinct.{KeepsGroups}
use Rattle.form_types.specs.Below.{NamesBelow}

-- ---- what was numbered so far

-- each number below one that was given was given before it, and each number below the count was given
pub record AreGiven (number : ℕ → ℕ) (many count : ℕ) : Type 0 where
  pub in_order : (i id : ℕ) → i < many → id < number i → (j : ℕ) × (j < i) × (number j ≡ id)
  pub nothing_else : (id : ℕ) → id < count → (j : ℕ) × (j < many) × (number j ≡ id)

abbrev types_of : List (Group ℕ ℕ) → List (SubType ℕ ℕ)
types_of gs = flat_map (λ g. g) gs

abbrev pub Canonical : Type 0
Canonical = Group (Target ℕ) (Target ℕ)

-- what a reference of a canonical group names, where the group's first member has an id
abbrev pub resolved : ℕ → Target ℕ → UnpackedIndex
resolved first (Inside p) = Id (id_of (first + p))
resolved first (Earlier id) = Id (id_of id)

-- a canonical group, by ids
abbrev pub by_ids : ℕ → Canonical → NamedGroup
by_ids first c = map_group (resolved first) (resolved first) c

-- each reference names a type before the group's end
abbrev pub NearIn : Home → Type 0
NearIn g = All (λ r. r < g.start + length g.members) (group_edges (λ r. r) g.members)

-- the groups of some keys by ids, each key once
pub record KeysAreListed (keys : List Canonical) (groups : List NamedGroup) : Type 0 where
  pub long : length groups ≡ length keys
  pub are : (k : ℕ) → k < length keys → get_or groups k [] ≡ by_ids (first_id groups k) (get_or keys k [])
  pub apart : AllPairs (λ c d. c ≢ d) keys
  pub references : NameEarlier 0 groups

-- a type has its number in the group of its key, whose references are near
pub record HasNumberInGroup (keys : List Canonical) (groups : List NamedGroup) (number : ℕ → ℕ) (i : ℕ) (g : Home) : Type 0 where
  pub at : ℕ
  pub below : at < length keys
  pub key : get_or keys at [] ≡ canonical number g
  pub number_is : number i ≡ first_id groups at + (i - g.start)
  pub near : NearIn g

-- what is recorded for a key: the first id of its group, or that there is none
abbrev pub TellsAt : List Canonical → List NamedGroup → GroupKey → Option ℕ → Type 0
TellsAt keys groups key (Some first) = (k : ℕ) × (k < length keys) × (key ≡ group_key (get_or keys k [])) × (first ≡ first_id groups k)
TellsAt keys groups key None = (k : ℕ) → k < length keys → key ≡ group_key (get_or keys k []) → ⊥

pub record IsNumbered (gs : List (Group ℕ ℕ)) (number : ℕ → ℕ) (keys : List Canonical) (groups : List NamedGroup) (get : CanonicalGroup → Option ℕ) : Type 0 where
  pub few : length (types_by_id groups) ≤ length (types_of gs)
  pub listed : KeysAreListed keys groups
  pub tells : (q : CanonicalGroup) → TellsAt keys groups (key_of q) (get q)
  pub stands : (i : ℕ) → i < length (types_of gs) → HasNumberInGroup keys groups number i (home gs i)
  pub given : AreGiven number (length (types_of gs)) (length (types_by_id groups))

abbrev pub places : List NamedGroup → List (Group ℕ ℕ)
places gs = map placed gs

-- the first groups are numbered
pub record FirstAreNumbered (done : List NamedGroup) (n : Numbering) : Type 0 where
  pub keys : List Canonical
  pub numbered : IsNumbered (places done) (slice_index (ids_of n.declared.items)) keys (map group_of n.distinct.groups.items) (first_of n.first_ids)
  pub counted : length (ids_of n.declared.items) ≡ length (types_of (places done))
  pub listed : KeepsGroups n.distinct (map group_of n.distinct.groups.items)

-- ---- the groups that were taken

-- these groups were taken: where each type names what it may, they are numbered, and are few and short
pub record IsNumberingOf (n : Numbering) (groups : List NamedGroup) : Type 0 where
  pub below : IsTrue n.names_below ↔ All NamesBelow (declared_groups 0 groups)
  pub built : IsTrue n.names_below → FirstAreNumbered groups n
  pub few : IsTrue n.names_below → length (types_by_id groups) < 2 ^ 30
  pub short : IsTrue n.names_below → All HasShortLists (types_by_id groups)
