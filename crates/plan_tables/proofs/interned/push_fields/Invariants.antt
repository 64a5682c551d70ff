use Rattle.std.proofs.Common.{◌≡◌, ◌++◌, map, take}
use Rattle.plan_tables.specs.Interned.{field_row}
use Rattle.plan_tables.proofs.interned.push_fields.Given as goal

abbrev pub invariant-loop-field : goal.invariant-loop-field
invariant-loop-field l = l.rows.items ≡ l.initial.rows.items ++ map field_row (take l.field-index l.fields)
