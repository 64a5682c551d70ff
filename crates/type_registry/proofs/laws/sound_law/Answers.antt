use Rattle.std.proofs.Common.{ℕ, Option, Some, None, arith}
use Rattle.type_registry.specs.Registry.{Registry, Module}
use Rattle.type_registry.specs.Changes.{released_by}
use Rattle.type_registry.specs.Standing.{GroupsAreSound}
use Rattle.type_registry.proofs.Sound.{none-sound, left-sound}
use Rattle.type_registry.proofs.Registered.{registered-sound}
use Rattle.type_registry.proofs.laws.sound_law.Goals as goal

released-sound : (r : Registry) (key : ℕ) (o : Option Module) → GroupsAreSound r.groups → GroupsAreSound (released_by r key o).groups
released-sound r key None sound = sound
released-sound r key (Some m) sound = left-sound r.groups m.groups sound

pub returns : goal.returns
returns c = grind (arith, none-sound, registered-sound, released-sound)
