use Rattle.std.proofs.Common.{◌≡◌, ◌++◌}
use Rattle.std.specs.List.{flat_map}
use Rattle.plan_lines.specs.Numbers.{keyed_lines}
use Rattle.plan_lines.specs.TypeListLines.{group_line}
use Rattle.plan_lines.proofs.type_list_lines.append_groups.Given as goal

abbrev pub invariant-loop-index : goal.invariant-loop-index
invariant-loop-index l = l.text ++ flat_map (λ p. group_line p.0 p.1) l.index-iterator ≡ l.initial.text ++ keyed_lines group_line l.types.groups
