use Rattle.std.proofs.Common.{arith}
use Rattle.type_registry.proofs.Roomier.{kept-known}
use Rattle.type_registry.proofs.groups.Groups.make_room.Goals as goal

pub invariant_of-self-then-indices-len : goal.invariant_of-self-then-indices-len
invariant_of-self-then-indices-len c = grind (arith, kept-known)

pub invariant_of-self-2 : goal.invariant_of-self-2
invariant_of-self-2 c = grind (arith, kept-known)
