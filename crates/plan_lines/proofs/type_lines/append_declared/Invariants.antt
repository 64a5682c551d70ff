use Rattle.std.proofs.Common.{◌≡◌, ◌++◌}
use Rattle.std.specs.List.{flat_map}
use Rattle.plan_lines.specs.Numbers.{keyed_lines}
use Rattle.plan_lines.specs.TypeLines.{declared_line}
use Rattle.plan_lines.proofs.type_lines.append_declared.Given as goal

abbrev pub invariant-loop-index : goal.invariant-loop-index
invariant-loop-index l = l.text ++ flat_map (λ p. declared_line p.0 p.1) l.index-iterator ≡ l.initial.text ++ keyed_lines declared_line l.types
