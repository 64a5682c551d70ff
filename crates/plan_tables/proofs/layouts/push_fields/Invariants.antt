use Rattle.std.proofs.Common.{◌≡◌, ◌++◌, map, take}
use Rattle.plan_tables.specs.Layouts.{field_row}
use Rattle.plan_tables.proofs.layouts.push_fields.Given as goal

abbrev pub invariant-loop-field : goal.invariant-loop-field
invariant-loop-field l = l.fields.items ≡ l.initial.fields.items ++ map field_row (take l.field-index l.layout)
