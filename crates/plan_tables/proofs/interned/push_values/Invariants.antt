use Rattle.std.proofs.Common.{◌≡◌, ◌++◌, map, take}
use Rattle.plan_tables.specs.Interned.{parameter_row}
use Rattle.plan_tables.proofs.interned.push_values.Given as goal

abbrev pub invariant-loop-ty : goal.invariant-loop-ty
invariant-loop-ty l = l.rows.items ≡ l.initial.rows.items ++ map parameter_row (take l.ty-index l.types)
