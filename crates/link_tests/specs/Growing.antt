-- A registry in which modules may be registered.
use Rattle.std.specs.Prelude.{◌<◌}
use Rattle.type_registry.specs.Registry.{Registry}
use Rattle.type_registry.specs.Standing.{GroupsAreSound}

-- its kept groups are told apart, and not too many types may be live
pub record MayGrow (r : Registry) : Type 0 where
  pub sound : GroupsAreSound r.groups
  pub most : r.max_types < 4294967295
