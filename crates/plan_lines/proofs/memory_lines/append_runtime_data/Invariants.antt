use Rattle.std.proofs.Common.{◌≡◌, ◌++◌}
use Rattle.std.specs.List.{flat_map}
use Rattle.plan_lines.specs.Numbers.{keyed_lines}
use Rattle.plan_lines.specs.MemoryLines.{runtime_line}
use Rattle.plan_lines.proofs.memory_lines.append_runtime_data.Given as goal

abbrev pub invariant-loop-index : goal.invariant-loop-index
invariant-loop-index l = l.text ++ flat_map (λ p. runtime_line p.0 p.1) l.index-iterator ≡ l.initial.text ++ keyed_lines runtime_line l.ranges
