use Rattle.std.proofs.Common.{◌≡◌, ◌++◌}
use Rattle.plan_lines.specs.TypeListLines.{type_lines_from}
use Rattle.plan_lines.proofs.Trampolines.{lines_taking}
use Rattle.plan_lines.proofs.type_list_lines.append_each_type.Given as goal

abbrev pub invariant-loop-index : goal.invariant-loop-index
invariant-loop-index l = l.text ++ lines_taking l.index-iterator l.trampolines
    ≡ l.initial.text ++ type_lines_from 0 l.types.types l.types.trampolines
