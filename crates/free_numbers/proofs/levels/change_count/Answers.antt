use Rattle.std.proofs.Common.{arith, ◌≡◌, ◌∙◌, get_or}
use Rattle.std.proofs.lemmas.List.{get_or_default}
use Rattle.free_numbers.proofs.Pairs.{before-few}
use Rattle.free_numbers.proofs.levels.change_count.Goals as goal

pub overflow_add-index : goal.overflow_add-index
overflow_add-index c =
    let xs = c.args.counts.now.items in
    let n = c.args.number in
    let at : c.index.result.now ≡ get_or xs n 0 = c.index.ensures ∙ get_or_default xs n c.index.result.now 0 c.requires.0 in
    omega (arith, at, before-few xs n, c.requires.2)
