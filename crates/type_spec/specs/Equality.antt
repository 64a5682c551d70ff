-- Iso-recursive equality of types (core specification, 3.1, recursive types), over lists of groups
-- in which a reference is a position in the joined list.
use Rattle.std.specs.Prelude.{◌≡◌, ℕ, zero, suc, ◌+◌, ◌-◌, Bool, true, false, nat_eq, nat_le, nat_lt, ◌&&◌, List, [], ◌∷◌, length, if◌then◌else◌}
use Rattle.std.specs.Cmp.Lexicographic.{pointwise}
use Rattle.wasm_spec.specs.TypeData.{Group, map_group, group_edges}
use Rattle.type_spec.specs.Shapes.{erased, AreAlike}
use Rattle.type_spec.specs.Same.{same_frame}

-- a reference of a group that starts at a position of the joined list: to a position in the group,
-- or to an earlier type
pub data Target (X : Type 0) : Type 0 where
  Inside : (place : ℕ) → Target X
  Earlier : (what : X) → Target X

abbrev pub target_by : {X : Type 0} → Bool → ℕ → X → Target X
target_by true place what = Inside place
target_by false place what = Earlier what

abbrev pub target : {X : Type 0} → (ℕ → X) → ℕ → ℕ → Target X
target of start i = target_by (nat_le start i) (i - start) (of i)

-- a group of a list, and where it starts in the joined list
pub record Home : Type 0 where
  pub start : ℕ
  pub members : Group ℕ ℕ

abbrev pub home_from : ℕ → List (Group ℕ ℕ) → ℕ → Home
home_from start [] i = record { start = start; members = [] }
home_from start (g ∷ gs) i = if nat_lt i (start + length g) then record { start = start; members = g } else home_from (start + length g) gs i

-- the group of the type at a position
abbrev pub home : List (Group ℕ ℕ) → ℕ → Home
home gs i = home_from 0 gs i

-- its members without their references, and those references in order
abbrev pub group_frame : Home → Group (Unit {0}) (Unit {0})
group_frame g = map_group erased erased g.members

abbrev pub group_references : Home → List ℕ
group_references g = group_edges (λ r. r) g.members

-- ---- what equality is

-- two references are equal where both name equal positions of their own groups, or both name
-- earlier types, which are equal
abbrev pub SameTarget : {X Y : Type 0} → (X → Y → Type 0) → Target X → Target Y → Type 0
SameTarget Same (Inside p) (Inside q) = p ≡ q
SameTarget Same (Earlier a) (Earlier b) = Same a b
SameTarget Same _ _ = ⊥

-- groups are equal where they differ in their references alone, and those are equal one by one
abbrev pub SameGroup : (ℕ → ℕ → Type 0) → Home → Home → Type 0
SameGroup Same g h =
    AreAlike (λ r s. SameTarget Same (target (λ i. i) g.start r) (target (λ i. i) h.start s))
    (group_frame g) (group_frame h) (group_references g) (group_references h)

-- types are equal where they are at the same position of equal groups; references are followed
-- through a given number of groups
abbrev pub SameDown : ℕ → List (Group ℕ ℕ) → List (Group ℕ ℕ) → ℕ → ℕ → Type 0
SameDown zero ms ns i j = ⊥
SameDown (suc depth) ms ns i j =
    (i - (home ms i).start ≡ j - (home ns j).start) × SameGroup (λ r s. SameDown depth ms ns r s) (home ms i) (home ns j)

-- a reference out of a group names a lower position, so no chain of them is longer than the
-- position where it begins
abbrev pub SameType : List (Group ℕ ℕ) → List (Group ℕ ℕ) → ℕ → ℕ → Type 0
SameType ms ns i j = SameDown (suc i) ms ns i j

-- ---- the test of equality

abbrev pub same_target : (ℕ → ℕ → Bool) → Target ℕ → Target ℕ → Bool
same_target same (Inside p) (Inside q) = nat_eq p q
same_target same (Earlier i) (Earlier j) = same i j
same_target same _ _ = false

abbrev pub same_edge : (ℕ → ℕ → Bool) → Home → Home → ℕ → ℕ → Bool
same_edge same g h r s = same_target same (target (λ i. i) g.start r) (target (λ i. i) h.start s)

-- the frames are compared, and the references one by one
abbrev pub same_group : (ℕ → ℕ → Bool) → Home → Home → Bool
same_group same g h =
    same_frame (group_frame g) (group_frame h) && pointwise (same_edge same g h) (group_references g) (group_references h)

abbrev pub same_down : ℕ → List (Group ℕ ℕ) → List (Group ℕ ℕ) → ℕ → ℕ → Bool
same_down zero ms ns i j = false
same_down (suc depth) ms ns i j =
    nat_eq (i - (home ms i).start) (j - (home ns j).start) && same_group (same_down depth ms ns) (home ms i) (home ns j)

abbrev pub same_type : List (Group ℕ ℕ) → List (Group ℕ ℕ) → ℕ → ℕ → Bool
same_type ms ns i j = same_down (suc i) ms ns i j

-- ---- canonical groups

-- a group in which each earlier type is given by a number, and each reference within the group by
-- its position
abbrev pub canonical : (ℕ → ℕ) → Home → Group (Target ℕ) (Target ℕ)
canonical number g = map_group (target number g.start) (target number g.start) g.members
