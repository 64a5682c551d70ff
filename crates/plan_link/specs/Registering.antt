-- Capacity for the types of one more module.
use Rattle.std.specs.Prelude.{◌<◌, ◌≤◌, ◌+◌, ℕ, length}
use Rattle.type_registry.specs.Registry.{Registry, live}

-- so many more types may be live, and there is a number for one more key
pub record HasRoom (r : Registry) (count : ℕ) : Type 0 where
  pub types : length (live r) + count ≤ r.max_types
  pub key : r.registrations < 18446744073709551615
