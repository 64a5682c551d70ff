-- Groups that may be kept.
use Rattle.std.specs.Prelude.{◌≡◌, ◌<◌, ◌≤◌, ◌+◌, ⊤, ℕ, false, nat_eq, [], ◌∷◌, length, slice_get, Some, None}
use Rattle.std.specs.List.{list_any}
use Rattle.type_registry.specs.Registry.{Group, Groups, GroupsState, indices_of}
use Rattle.type_registry.specs.Changes.{find_group, keep_group}

-- a group that may be kept: there is capacity for it, its indices are distinct and not live, and no
-- kept group is equal
pub record MayBeKept (s : GroupsState) (g : Group) : Type 0 where
  pub few : length (indices_of s.groups) + length g.indices < 4294967296
  pub spare : 0 < s.spare
  pub room : (p n : ℕ) → slice_get g.indices p ≡ Some n → n < s.room
  pub free : (p n : ℕ) → slice_get g.indices p ≡ Some n → list_any (nat_eq n) (indices_of s.groups) ≡ false
  pub once : (p q n : ℕ) → slice_get g.indices p ≡ Some n → slice_get g.indices q ≡ Some n → p ≡ q
  pub unknown : find_group g.canonical s.groups ≡ None

-- one more group is kept; the capacity for indices is unchanged, and that for groups is at most one
-- less
abbrev pub IsKeptIn : GroupsState → ℕ × Group → GroupsState → Type 0
IsKeptIn s e t = (t.groups ≡ keep_group s.groups e.0 e.1) × (t.room ≡ s.room) × (s.spare ≤ t.spare + 1)

-- groups that may be kept one after another
abbrev pub MayKeepAll : GroupsState → Groups → Type 0
MayKeepAll s [] = ⊤
MayKeepAll s (e ∷ es) = MayBeKept s e.1 × ((t : GroupsState) → IsKeptIn s e t → MayKeepAll t es)
