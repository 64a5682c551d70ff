use Rattle.std.proofs.Common.{◌≡◌, map, take}
use Rattle.plan_tables.specs.Globals.{global_value_row}
use Rattle.plan_tables.proofs.globals.global_values_of.Given as goal

abbrev pub invariant-loop-value : goal.invariant-loop-value
invariant-loop-value l = l.rows.items ≡ map global_value_row (take l.value-index l.values)
