use Rattle.std.proofs.Common.{arith}
use Rattle.type_registry.proofs.room.fill.Goals as goal

pub returns : goal.returns
returns c = grind (arith, c.loop-place.invariant.last)
