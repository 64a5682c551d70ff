use Rattle.std.proofs.Common.{arith}
use Rattle.std.proofs.lemmas.Grind.{common_steps}
use Rattle.type_registry.proofs.Roomier.{are-counts}
use Rattle.type_registry.proofs.room.free_again.Goals as goal

pub of-requires-clause-counts : goal.of-requires-clause-counts
of-requires-clause-counts c = grind (arith, common_steps, are-counts)
