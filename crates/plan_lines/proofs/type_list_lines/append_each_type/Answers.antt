use Rattle.std.proofs.Common.{ap, ◌++◌}
use Rattle.plan_lines.proofs.Trampolines.{lines_taken}
use Rattle.plan_lines.proofs.type_list_lines.append_each_type.Goals as goal

-- at the start, the lines of all types remain
pub loop-index-init : goal.loop-index-init
loop-index-init c =
    rw (c.into_iter-index-iterator.ensures.into_iter_gives, c.wasm_types-index-items.ensures, c.of-trampolines.ensures)
    (ap (λ lines. c.args.text.now ++ lines) (lines_taken 0 c.args.types.now.types c.args.types.now.trampolines))
