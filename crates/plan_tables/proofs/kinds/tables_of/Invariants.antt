use Rattle.std.proofs.Common.{◌≡◌, map, take}
use Rattle.plan_tables.specs.Kinds.{table_row}
use Rattle.plan_tables.proofs.kinds.tables_of.Given as goal

abbrev pub invariant-loop-table : goal.invariant-loop-table
invariant-loop-table l = l.rows.items ≡ map table_row (take l.table-index l.tables)
