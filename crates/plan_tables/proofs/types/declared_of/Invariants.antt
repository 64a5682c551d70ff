use Rattle.std.proofs.Common.{◌≡◌, map, take}
use Rattle.plan_lines.specs.TypeLines.{listed_number}
use Rattle.plan_tables.proofs.types.declared_of.Given as goal

abbrev pub invariant-loop-index : goal.invariant-loop-index
invariant-loop-index l = l.numbers.items ≡ map listed_number (take l.index-index l.types)
