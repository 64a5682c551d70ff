use Rattle.std.proofs.lemmas.Grind.{common_steps}
use Rattle.std.proofs.Common.{arith}
use Rattle.std.proofs.lemmas.List.{map_push}
use Rattle.free_numbers.proofs.Pairs.{pairs-shorter, chain-more, first-more, chain-tree, total-pairs}
use Rattle.free_numbers.proofs.levels.levels_of.Goals as goal

pub loop-alloc-smaller : goal.loop-alloc-smaller
loop-alloc-smaller c = grind (arith, common_steps, pairs-shorter)

pub loop-alloc-preserved : goal.loop-alloc-preserved
loop-alloc-preserved c = grind (arith, common_steps, map_push, chain-more, first-more, total-pairs)

pub returns-clause-tree : goal.returns-clause-tree
returns-clause-tree c = grind (arith, common_steps, map_push, chain-tree)

pub returns-clause-counts : goal.returns-clause-counts
returns-clause-counts c = grind (arith, common_steps, map_push)
