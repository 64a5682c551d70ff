use Rattle.std.proofs.Common.{◌≡◌, map, take}
use Rattle.type_registry.specs.Owners.{free_count}
use Rattle.type_registry.proofs.room.free_again.Given as goal

abbrev pub invariant-loop-owner : goal.invariant-loop-owner
invariant-loop-owner l = l.counts.items ≡ map free_count (take l.owner-index l.owners)
