-- How often held modules have each kept group, and which list each of them has.
use Rattle.std.specs.Prelude.{◌≡◌, ◌<◌, ◌≤◌, ◌+◌, ℕ, zero, suc, nat_eq, List, [], ◌∷◌, Option, Some, None, if◌then◌else◌}
use Rattle.std.specs.List.{flat_map}
use Rattle.type_registry.specs.Registry.{Registry, Group, Module}
use Rattle.type_registry.specs.Standing.{kept_at, GroupsAreSound}

-- how often a list has a number
abbrev pub times : ℕ → List ℕ → ℕ
times n [] = 0
times n (x ∷ xs) = (if nat_eq n x then 1 else 0) + times n xs

-- how often a module has the group at a first index
abbrev pub times_in : ℕ → Option Module → ℕ
times_in first None = 0
times_in first (Some m) = times first m.groups

-- how often those modules have it that are held under the keys below one
abbrev pub times_below : (ℕ → Option Module) → ℕ → ℕ → ℕ
times_below held first zero = 0
times_below held first (suc key) = times_below held first key + times_in first (held key)

-- a group that is not kept counts nothing and has no indices
abbrev pub count_in : Option Group → ℕ
count_in None = 0
count_in (Some g) = g.count

abbrev pub indices_in : Option Group → List ℕ
indices_in None = []
indices_in (Some g) = g.indices

-- the indices of the group that is kept at a first index
abbrev pub indices_at : Registry → ℕ → List ℕ
indices_at r first = indices_in (kept_at r first)

-- kept groups are told apart; no key is held before it is given; a group is kept exactly as long as
-- held modules have it, and its count is how often they have it; and the list of a held module is
-- the concatenation of its groups
pub record IsBalanced (r : Registry) : Type 0 where
  pub sound : GroupsAreSound r.groups
  pub unused : (key : ℕ) → r.registrations ≤ key → r.held key ≡ None
  pub counted : (first : ℕ) → count_in (kept_at r first) ≡ times_below r.held first r.registrations
  pub had : (first : ℕ) (g : Group) → kept_at r first ≡ Some g → 0 < g.count
  pub listed : (key : ℕ) (m : Module) → r.held key ≡ Some m → m.indices ≡ flat_map (indices_at r) m.groups
