use Rattle.std.proofs.Common.{sym, get_or, take}
use Rattle.std.proofs.lemmas.List.{take_more}
use Rattle.type_registry.proofs.Leaving.{left_push}
use Rattle.type_registry.proofs.registry.leave_all.Goals as goal

pub loop-first-preserved : goal.loop-first-preserved
loop-first-preserved c =
    let fs = c.args.firsts.now in
    let k = c.loop-first.first-index in
    rw (c.leave.ensures, c.loop-first.invariant, take_more fs k 0 c.loop-first-test.true) (sym (left_push c.args.groups.now.groups (take k fs) (get_or fs k 0)))
