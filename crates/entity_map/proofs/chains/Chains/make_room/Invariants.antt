use Rattle.std.proofs.Common.{◌≡◌, take}
use Rattle.entity_map.specs.Chains.{room_of, IsTable}
use Rattle.entity_map.proofs.chains.Chains.make_room.Given as goal

abbrev pub invariant-loop-number : goal.invariant-loop-number
invariant-loop-number l = record { room : room_of l.chains ≡ l.room; table : IsTable (take l.number l.hashes) l.chains }
