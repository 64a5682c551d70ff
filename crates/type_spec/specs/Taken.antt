-- When two lists have the same interned groups, and when two interned lists are the same.
use Rattle.std.specs.Prelude.{◌≡◌, ◌<◌, ℕ, ◌+◌, All, List, [], ◌∷◌, length}
use Rattle.std.specs.List.{AllZip}
use Rattle.wasm_spec.specs.TypeData.{Group, group_edges}
use Rattle.type_spec.specs.Equality.{SameGroup, SameType}
use Rattle.type_spec.specs.TakenGroups.{taken_groups}
use Rattle.type_spec.specs.Interned.{Built}

-- each reference names a type of its own group or of an earlier one, where the first group starts
-- at a position
abbrev pub NameEarlier : ℕ → List (Group ℕ ℕ) → Type 0
NameEarlier start [] = Unit {0}
NameEarlier start (g ∷ gs) = All (λ r. r < start + length g) (group_edges (λ r. r) g) × NameEarlier (start + length g) gs

-- of two lists equally many groups are interned, and they are equal in turn
abbrev pub TakeEqual : List (Group ℕ ℕ) → List (Group ℕ ℕ) → Type 0
TakeEqual ms ns = AllZip (SameGroup (λ i j. SameType ms ns i j)) (taken_groups ms) (taken_groups ns)

-- equal types, groups and trampolines
pub record SameLists (b c : Built) : Type 0 where
  pub types : b.types ≡ c.types
  pub groups : b.groups ≡ c.groups
  pub trampolines : b.trampolines ≡ c.trampolines
