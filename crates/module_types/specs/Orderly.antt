-- Groups that are consecutive.
use Rattle.std.specs.Prelude.{◌≡◌, ◌<◌, ℕ, List, [], ◌∷◌, length}
use Rattle.type_spec.specs.Interned.{GroupSpan, Built}

-- groups are consecutive, from one index up to another, and none is empty
abbrev pub LieBetween : ℕ → List GroupSpan → ℕ → Type 0
LieBetween first [] end = first ≡ end
LieBetween first (s ∷ ss) end = (s.start ≡ first) × (s.start < s.end) × LieBetween s.end ss end

-- each type has its group: the groups are consecutive, from the first type to the last
abbrev pub IsOrderly : Built → Type 0
IsOrderly b = LieBetween 0 b.groups (length b.types)
