use Rattle.std.proofs.Common.{◌≡◌, ◌++◌}
use Rattle.std.specs.List.{flat_map}
use Rattle.plan_lines.specs.Numbers.{keyed_lines}
use Rattle.plan_lines.specs.ModuleLines.{escape_lines}
use Rattle.plan_lines.proofs.module_lines.append_escapes.Given as goal

abbrev pub invariant-loop-index : goal.invariant-loop-index
invariant-loop-index l = l.text ++ flat_map (λ p. escape_lines p.0 p.1) l.index-iterator ≡ l.initial.text ++ keyed_lines escape_lines l.functions
