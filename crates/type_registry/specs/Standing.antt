-- A registration that is held.
use Rattle.std.specs.Prelude.{◌≡◌, ◌<◌, ◌+◌, ◌↔◌, ⊤, ℕ, nat_eq, List, [], ◌∷◌, map, length, get_or, take, drop, slice_get, Contains, Option, Some}
use Rattle.wasm_types.specs.TypeViews.{group_of}
use Rattle.std.specs.Map.{lookup}
use Rattle.type_spec.specs.Interned.{GroupSpan}
use Rattle.type_spec.specs.Equality.{SameType}
use Rattle.module_types.specs.Views.{span_of}
use Rattle.module_types.specs.TypeList.{TypeList}
use Rattle.module_types.specs.ListGroups.{list_groups}
use Rattle.type_registry.specs.Registry.{Registry, Group, Groups, Module, index_at, live}
use Rattle.module_types.specs.Listed.{Listed, list_of}
use Rattle.type_registry.specs.Changes.{size_of, canonical_data, fresh}

-- the group that is kept at a first index
abbrev pub kept_at : Registry → ℕ → Option Group
kept_at r first = lookup (nat_eq first) r.groups

-- the first indices of groups are above a number
abbrev pub AreAbove : ℕ → Groups → Type 0
AreAbove n [] = ⊤
AreAbove n (e ∷ es) = (n < e.0) × AreAbove n es

abbrev pub AreOrdered : Groups → Type 0
AreOrdered [] = ⊤
AreOrdered (e ∷ es) = AreAbove e.0 es × AreOrdered es

-- groups at their first indices, in their order: no two are equal, and an index belongs to one
-- member of one group
pub record GroupsAreSound (gs : Groups) : Type 0 where
  pub ordered : AreOrdered gs
  pub groups : (i j : ℕ) (g h : Group) → lookup (nat_eq i) gs ≡ Some g → lookup (nat_eq j) gs ≡ Some h → g.canonical ≡ h.canonical → i ≡ j
  pub members : (i : ℕ) (g : Group) → lookup (nat_eq i) gs ≡ Some g → length g.indices ≡ length g.canonical
  pub firsts : (i : ℕ) (g : Group) → lookup (nat_eq i) gs ≡ Some g → slice_get g.indices 0 ≡ Some i
  pub owned : (i j p q n : ℕ) (g h : Group) → lookup (nat_eq i) gs ≡ Some g → lookup (nat_eq j) gs ≡ Some h
      → slice_get g.indices p ≡ Some n → slice_get h.indices q ≡ Some n → (i ≡ j) × (p ≡ q)

-- the group of a span is the one that is kept at the indices of its members
pub record GroupStands (r : Registry) (indices : List ℕ) (l : TypeList) (s : GroupSpan) : Type 0 where
  pub group : Group
  pub kept : kept_at r (get_or indices s.start 0) ≡ Some group
  pub at : group.indices ≡ take (size_of s) (drop s.start indices)
  pub canonical : group_of group.canonical ≡ canonical_data l indices s

-- the key is held, its list is as long as that of the types, and each group is kept at the indices
-- of its members
pub record Stands (r : Registry) (key : ℕ) (l : TypeList) : Type 0 where
  pub sound : GroupsAreSound r.groups
  pub listed : Module
  pub held : r.held key ≡ Some listed
  pub count : length listed.indices ≡ length l.types
  pub groups : (k : ℕ) (s : GroupSpan) → slice_get (map span_of l.groups) k ≡ Some s → GroupStands r listed.indices l s

-- an index is live exactly where the list of some held key has it
pub record IsHeld (r : Registry) (i : ℕ) : Type 0 where
  pub key : ℕ
  pub place : ℕ
  pub at : index_at r key place ≡ Some i

abbrev pub LiveWhereHeld : Registry → Type 0
LiveWhereHeld r = (i : ℕ) → Contains (live r) i ↔ IsHeld r i

-- two registered types have one index exactly where they are equal by group and position
abbrev pub TellsTypes : Registry → ℕ → TypeList → ℕ → TypeList → Type 0
TellsTypes r a l b k = (i j : ℕ) → i < length l.types → j < length k.types
    → (index_at r a i ≡ index_at r b j) ↔ SameType (list_groups (list_of l)) (list_groups (list_of k)) i j

-- a list that a registry accepts: it may be registered, there is capacity for its types, and the
-- kept groups are told apart
pub record MayRegister (r : Registry) (l : TypeList) : Type 0 where
  pub listed : Listed l
  pub few : length l.types < 4294967295
  pub most : r.max_types < 4294967295
  pub fits : r.max_types < length (live r) + fresh r l → ⊥
  pub sound : GroupsAreSound r.groups
