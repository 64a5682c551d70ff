-- Objects at addresses, and those of an instance (core specification, 4.2, runtime structure, and
-- 4.7, allocation).
use Rattle.std.specs.Prelude.{◌≡◌, ℕ, ◌+◌, ◌-◌, ◌<◌, ◌≤◌, nat_lt, nat_le, All, List, length, map, slice_index, if◌then◌else◌}
use Rattle.replay_spec.specs.Phases.{Piece, Phase}

-- memories or tables by their addresses: how long each is, and what is at its positions
pub record Objects (A : Type 0) : Type 0 where
  pub sizes : ℕ → ℕ
  pub items : ℕ → ℕ → A

-- the addresses of an instance's memories or tables: one for each that is imported, of which two
-- may be one, and the first of its own, which follow one another
pub record Addresses : Type 0 where
  pub imported : List ℕ
  pub first : ℕ

-- the address of the object with an index
abbrev pub address : Addresses → ℕ → ℕ
address a i = if nat_lt i (length a.imported) then slice_index a.imported i else a.first + (i - length a.imported)

-- imported objects are among those that there are, and nothing is yet at the addresses of its own
pub record AreFree {A : Type 0} (a : Addresses) (objects : Objects A) : Type 0 where
  pub imported : All (λ at. at < a.first) a.imported
  pub free : (at : ℕ) → a.first ≤ at → objects.sizes at ≡ 0

-- its own objects are allocated, of these sizes, with what is in each at first
abbrev pub allocated : {A : Type 0} → Objects A → ℕ → List ℕ → (ℕ → ℕ → A) → Objects A
allocated objects first sizes initial = record {
  sizes = λ at. if nat_le first at then slice_index sizes (at - first) else objects.sizes at;
  items = λ at place. if nat_le first at then initial (at - first) place else objects.items at place;
}

-- a piece, by the address of its object
abbrev pub addressed : {A : Type 0} → Addresses → Piece A → Piece A
addressed a p = record { object = address a p.object; offset = p.offset; items = p.items }

-- pieces that are written to an instance's objects in order
abbrev pub phase_over : {A : Type 0} → Addresses → Objects A → List (Piece A) → Phase A
phase_over a objects pieces = record { sizes = objects.sizes; base = objects.items; pieces = map (addressed a) pieces }
