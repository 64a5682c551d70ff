use Rattle.std.proofs.Common.{◌≡◌, ◌++◌, map, take}
use Rattle.segment_tables.specs.Operators.{operator_row}
use Rattle.segment_tables.proofs.operators.push_operators.Given as goal

abbrev pub invariant-loop-operator : goal.invariant-loop-operator
invariant-loop-operator l = l.rows.items ≡ l.initial.rows.items ++ map operator_row (take l.operator-index l.operators)
