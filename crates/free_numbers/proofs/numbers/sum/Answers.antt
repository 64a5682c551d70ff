use Rattle.std.proofs.lemmas.Grind.{common_steps}
use Rattle.std.proofs.Common.{arith, ◌≡◌, ◌∙◌, length, ap}
use Rattle.free_numbers.specs.Counts.{before}
use Rattle.free_numbers.proofs.Pairs.{before-next, before-few, all-before}
use Rattle.free_numbers.proofs.numbers.sum.Goals as goal

pub overflow_add-sum : goal.overflow_add-sum
overflow_add-sum c = grind (arith, common_steps, before-few)

pub loop-count-preserved : goal.loop-count-preserved
loop-count-preserved c = grind (arith, common_steps, before-next)

pub returns : goal.returns
returns c =
    let xs = c.args.counts.now in
    let end : c.loop-count.count-index ≡ length xs = omega arith in
    c.loop-count.invariant ∙ ap (λ n. before n xs) end ∙ all-before xs
