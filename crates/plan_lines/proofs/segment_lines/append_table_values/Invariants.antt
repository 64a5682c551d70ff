use Rattle.std.proofs.Common.{◌≡◌, ◌++◌}
use Rattle.std.specs.List.{flat_map}
use Rattle.plan_lines.specs.Numbers.{keyed_lines}
use Rattle.plan_lines.specs.SegmentLines.{table_value_lines}
use Rattle.plan_lines.proofs.segment_lines.append_table_values.Given as goal

abbrev pub invariant-loop-table : goal.invariant-loop-table
invariant-loop-table l = l.text ++ flat_map (λ p. table_value_lines p.0 p.1) l.table-iterator
    ≡ l.initial.text ++ keyed_lines table_value_lines l.values
