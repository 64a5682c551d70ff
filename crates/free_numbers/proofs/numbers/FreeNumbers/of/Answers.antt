use Rattle.std.proofs.lemmas.Grind.{common_steps}
use Rattle.std.proofs.Common.{arith}
use Rattle.free_numbers.proofs.Pairs.{few-in-all}
use Rattle.free_numbers.proofs.numbers.FreeNumbers.of.Goals as goal

pub sum-free-requires : goal.sum-free-requires
sum-free-requires c = grind (arith, common_steps, few-in-all)
