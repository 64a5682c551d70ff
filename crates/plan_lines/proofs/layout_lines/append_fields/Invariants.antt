use Rattle.std.proofs.Common.{◌≡◌, ◌++◌, take}
use Rattle.std.specs.List.{flat_map}
use Rattle.plan_lines.specs.LayoutLines.{layout_field_text}
use Rattle.plan_lines.proofs.layout_lines.append_fields.Given as goal

abbrev pub invariant-loop-field : goal.invariant-loop-field
invariant-loop-field l = l.text ≡ l.initial.text ++ flat_map layout_field_text (take l.field-index l.fields)
