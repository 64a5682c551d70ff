-- The types of a module by ids: its distinct groups (core specification, 3.1, recursive types), and
-- the id of each declared type.
use Rattle.std.specs.Prelude.{ℕ, ◌+◌, ◌^◌, ◌<◌, All, List, [], ◌∷◌, ◌++◌, length, replicate, slice_get, IsSomeAnd}
use Rattle.std.specs.List.{flat_map}
use Rattle.wasm_spec.specs.declared.types.CoreTypeId.{CoreTypeId}
use Rattle.wasm_spec.specs.declared.types.UnpackedIndex.{UnpackedIndex}
use Rattle.wasm_spec.specs.declared.types.UnpackedIndex.TheVariants.{Id}
use Rattle.wasm_spec.specs.TypeData.{Group, SubType, Composite, Cont, group_edges}
use Rattle.wasm_spec.specs.Sizes.{HasShortLists}
use Rattle.rule_spec.specs.TypeRules.{IsFunction}
use Rattle.form_types.specs.Ids.{ids_from}

-- A group that names types by ids
abbrev pub NamedGroup : Type 0
NamedGroup = Group UnpackedIndex UnpackedIndex

-- the validator's number; the distinct groups, whose members have the ids from 0 on, in which each
-- reference is an id; and the id of each declared type
pub record TypesData : Type 0 where
  pub validator : ℕ
  pub groups : List NamedGroup
  pub declared : List ℕ

-- the types of groups, by ids
abbrev pub types_by_id : List NamedGroup → List (SubType UnpackedIndex UnpackedIndex)
types_by_id groups = flat_map (λ group. group) groups

-- the number of the group of each id, where the first group has a number
abbrev pub group_numbers : ℕ → List NamedGroup → List ℕ
group_numbers number [] = []
group_numbers number (g ∷ gs) = replicate (length g) number ++ group_numbers (number + 1) gs

-- the ids of the members of each group, where the first member of the first has an id
abbrev pub member_ids : ℕ → List NamedGroup → List (List CoreTypeId)
member_ids first [] = []
member_ids first (g ∷ gs) = ids_from first (length g) ∷ member_ids (first + length g) gs

-- ---- what holds in every list of types

-- the id is below a bound
abbrev pub IsIdBelow : ℕ → UnpackedIndex → Type 0
IsIdBelow bound (Id id) = id.0 < bound
IsIdBelow bound _ = ⊥

-- each reference names a type of the same group or of an earlier one, where the first member of the
-- first has an id
abbrev pub NameEarlier : ℕ → List NamedGroup → Type 0
NameEarlier first [] = Unit {0}
NameEarlier first (g ∷ gs) = All (IsIdBelow (first + length g)) (group_edges (λ r. r) g) × NameEarlier (first + length g) gs

-- the reference names a function type
abbrev pub NamesFunction : List (SubType UnpackedIndex UnpackedIndex) → UnpackedIndex → Type 0
NamesFunction types (Id id) = IsSomeAnd (slice_get types id.0) (λ t. IsFunction t.composite.inner)
NamesFunction types _ = ⊥

abbrev pub CompositeContinues : List (SubType UnpackedIndex UnpackedIndex) → Composite UnpackedIndex UnpackedIndex → Type 0
CompositeContinues types (Cont function) = NamesFunction types function
CompositeContinues types _ = Unit {0}

-- a continuation names a function type
abbrev pub ContinuesFunction : List (SubType UnpackedIndex UnpackedIndex) → SubType UnpackedIndex UnpackedIndex → Type 0
ContinuesFunction types t = CompositeContinues types t.composite.inner

pub record TypesAreSound (t : TypesData) : Type 0 where
  pub references : NameEarlier 0 t.groups
  pub continuations : All (ContinuesFunction (types_by_id t.groups)) (types_by_id t.groups)
  pub lists : All HasShortLists (types_by_id t.groups)
  pub declared : All (λ id. id < length (types_by_id t.groups)) t.declared
  pub few : length (types_by_id t.groups) < 2 ^ 30
