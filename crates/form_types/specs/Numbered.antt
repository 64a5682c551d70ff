-- What the ids of a module's types are.
use Rattle.std.specs.Prelude.{◌≡◌, ◌↔◌, ℕ, ◌+◌, ◌-◌, ◌<◌, [], List, length, take, get_or, slice_index}
use Rattle.wasm_spec.specs.Module.{Module}
use Rattle.wasm_spec.specs.Module as plain
use Rattle.type_spec.specs.Equality.{Home, home, SameType}
use Rattle.form_types.specs.Types.{NamedGroup, TypesData, types_by_id}
use Rattle.form_types.specs.Placed.{placed_groups, named}

-- the id of the first member of the group with a number
abbrev pub first_id : List NamedGroup → ℕ → ℕ
first_id groups number = length (types_by_id (take number groups))

-- a declared type that has an id, and its group, are in a list of types: the group in which each
-- reference is the id of what it names
pub record HasItsId (t : TypesData) (declared : Home) (place id : ℕ) : Type 0 where
  pub number : ℕ
  pub below : number < length t.groups
  pub group : get_or t.groups number [] ≡ named t.declared declared.members
  pub member : id ≡ first_id t.groups number + (place - declared.start)

-- the distinct types of a module by ids
pub record AreNumbered (m : Module) (t : TypesData) : Type 0 where
  pub each : length t.declared ≡ length (plain.types m)
  -- two declared types have one id exactly where they are equal by group and position
  pub exact : (i j : ℕ) → i < length (plain.types m) → j < length (plain.types m)
      → (slice_index t.declared i ≡ slice_index t.declared j) ↔ SameType (placed_groups m) (placed_groups m) i j
  -- the members of a group have consecutive ids
  pub row : (i : ℕ) → i < length (plain.types m)
      → slice_index t.declared i ≡ slice_index t.declared (home (placed_groups m) i).start + (i - (home (placed_groups m) i).start)
  -- the group of each declared type is the group at its id
  pub held : (i : ℕ) → i < length (plain.types m) → HasItsId t (home (placed_groups m) i) i (slice_index t.declared i)
  -- ids come in the order of first occurrence: each below that of a declared type is that of a type
  -- declared before
  pub in_order : (i id : ℕ) → i < length (plain.types m) → id < slice_index t.declared i → (j : ℕ) × (j < i) × (slice_index t.declared j ≡ id)
  -- each id is that of a declared type
  pub nothing_else : (id : ℕ) → id < length (types_by_id t.groups) → (j : ℕ) × (j < length (plain.types m)) × (slice_index t.declared j ≡ id)
