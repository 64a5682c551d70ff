use Rattle.std.proofs.Common.{◌≡◌, ◌++◌}
use Rattle.std.specs.List.{flat_map}
use Rattle.plan_lines.specs.NameLines.{function_name_line}
use Rattle.plan_lines.proofs.name_lines.append_function_names.Given as goal

abbrev pub invariant-loop-index : goal.invariant-loop-index
invariant-loop-index l = l.text ++ flat_map (λ name. function_name_line name.0 name.1.now) l.index-iterator
    ≡ l.initial.text ++ flat_map (λ name. function_name_line name.0 name.1.now) l.names.entries
