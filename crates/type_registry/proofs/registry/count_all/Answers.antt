use Rattle.std.proofs.Common.{sym, get_or, take, arith}
use Rattle.std.proofs.lemmas.List.{take_more, length-take-le}
use Rattle.type_registry.proofs.Counting.{counted_push, counted-all}
use Rattle.type_registry.proofs.registry.count_all.Goals as goal

pub count-requires : goal.count-requires
count-requires c = grind (arith, counted-all, length-take-le)

pub loop-first-preserved : goal.loop-first-preserved
loop-first-preserved c =
    let fs = c.args.firsts.now in
    let k = c.loop-first.first-index in
    rw (c.count.ensures, c.loop-first.invariant, take_more fs k 0 c.loop-first-test.true) (sym (counted_push c.args.groups.now.groups (take k fs) (get_or fs k 0)))
