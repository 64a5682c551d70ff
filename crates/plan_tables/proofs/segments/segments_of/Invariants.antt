use Rattle.std.proofs.Common.{◌≡◌, map, take}
use Rattle.plan_tables.specs.Segments.{segment_row}
use Rattle.plan_tables.proofs.segments.segments_of.Given as goal

abbrev pub invariant-loop-segment : goal.invariant-loop-segment
invariant-loop-segment l = l.rows.items ≡ map segment_row (take l.segment-index l.planned)
