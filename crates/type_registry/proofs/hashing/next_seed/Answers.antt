use Rattle.std.proofs.Common.{arith}
use Rattle.std.proofs.lemmas.List.Sums.{fold-append}
use Rattle.type_registry.proofs.Digests.{taken, all_taken, taken-keyed}
use Rattle.type_registry.proofs.hashing.next_seed.Goals as goal

pub loop-index-init : goal.loop-index-init
loop-index-init c = grind (arith, all_taken, taken-keyed, fold-append, taken)

pub loop-index-preserved : goal.loop-index-preserved
loop-index-preserved c = grind (arith, all_taken, fold-append, taken)
