use Rattle.std.proofs.Common.{◌≡◌, map, take}
use Rattle.plan_tables.specs.Segments.{element_row}
use Rattle.plan_tables.proofs.segments.elements_of.Given as goal

abbrev pub invariant-loop-segment : goal.invariant-loop-segment
invariant-loop-segment l = l.rows.items ≡ map element_row (take l.segment-index l.segments)
