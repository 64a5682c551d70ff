use Rattle.std.proofs.Common.{◌≡◌, ◌++◌}
use Rattle.std.specs.List.{flat_map}
use Rattle.plan_lines.specs.Numbers.{keyed_lines}
use Rattle.plan_lines.specs.MemoryLines.{passive_lines}
use Rattle.plan_lines.proofs.memory_lines.append_passive_data.Given as goal

abbrev pub invariant-loop-segment : goal.invariant-loop-segment
invariant-loop-segment l = l.text ++ flat_map (λ p. passive_lines p.0 p.1) l.segment-iterator
    ≡ l.initial.text ++ keyed_lines passive_lines l.runtime_data_map.items
