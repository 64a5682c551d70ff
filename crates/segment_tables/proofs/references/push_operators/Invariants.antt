use Rattle.std.proofs.Common.{◌≡◌, ◌++◌, take}
use Rattle.segment_tables.specs.References.{referred}
use Rattle.segment_tables.proofs.references.push_operators.Given as goal

abbrev pub invariant-loop-operator : goal.invariant-loop-operator
invariant-loop-operator l = l.functions.items ≡ l.initial.functions.items ++ referred (take l.operator-index l.operators)
