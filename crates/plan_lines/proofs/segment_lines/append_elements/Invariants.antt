use Rattle.std.proofs.Common.{◌≡◌, ◌++◌, take}
use Rattle.std.specs.List.{flat_map}
use Rattle.plan_lines.specs.SegmentLines.{element_line}
use Rattle.plan_lines.proofs.segment_lines.append_elements.Given as goal

abbrev pub invariant-loop-segment : goal.invariant-loop-segment
invariant-loop-segment l = l.text ≡ l.initial.text ++ flat_map element_line (take l.segment-index l.segments)
