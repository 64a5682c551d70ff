use Rattle.std.proofs.Common.{arith}
use Rattle.type_registry.proofs.Counting.{counted-found}
use Rattle.type_registry.proofs.groups.Groups.count.Goals as goal

pub overflow_add-count : goal.overflow_add-count
overflow_add-count c = grind (arith, counted-found)
