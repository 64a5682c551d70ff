-- Which groups of a list are in the interned list: each where it, or one that is equal to it, first
-- occurs.
use Rattle.std.specs.Prelude.{ℕ, Bool, List, length, map}
use Rattle.std.specs.List.{flat_map, range_with_len}
use Rattle.entity_map.specs.Firsts.{firsts_by}
use Rattle.wasm_spec.specs.TypeData.{Group}
use Rattle.type_spec.specs.Equality.{Home, home}
use Rattle.type_spec.specs.Decided.{decide_type}

-- the positions of a list's types
abbrev pub places : List (Group ℕ ℕ) → List ℕ
places gs = range_with_len 0 (length (flat_map (λ g. g) gs))

-- groups are equal where their first types are
abbrev pub equal_groups : List (Group ℕ ℕ) → Home → Home → Bool
equal_groups gs g h = (decide_type gs gs g.start h.start).0

-- the groups of the types in order, without those that are equal to an earlier one
abbrev pub taken_groups : List (Group ℕ ℕ) → List Home
taken_groups gs = firsts_by (equal_groups gs) (map (home gs) (places gs))
