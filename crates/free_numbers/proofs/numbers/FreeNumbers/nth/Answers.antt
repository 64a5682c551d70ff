use Rattle.std.proofs.lemmas.Grind.{common_steps}
use Rattle.std.proofs.Common.{arith}
use Rattle.free_numbers.proofs.Pairs.{count-few}
use Rattle.free_numbers.proofs.numbers.FreeNumbers.nth.Goals as goal

pub returns-clause-free : goal.returns-clause-free
returns-clause-free c = grind (arith, common_steps, count-few)

pub returns-clause-rank : goal.returns-clause-rank
returns-clause-rank c = grind (arith, common_steps, count-few)
