use Rattle.std.proofs.Common.{length}
use Rattle.wasm_spec.specs.Module.{segments_of_section}
use Rattle.form_reader.specs.Views.{segment_of}
use Rattle.form_reader.specs.SectionRows.{data_segment}
use Rattle.form_rules.specs.Walk.{walk_left}
use Rattle.form_rules.specs.Views.{lists_of}
use Rattle.rule_breaks.specs.Kept.{SegmentKeeps}
use Rattle.rule_breaks.proofs.Searching.{Passes}
use Rattle.rule_breaks.proofs.segments.first_segment.Given as goal

-- those so far keep the rule
abbrev pub invariant-loop-segments : goal.invariant-loop-segments
invariant-loop-segments l = Passes (SegmentKeeps l.rule (lists_of l.typing.lists.now)) l.number (walk_left data_segment.read segment_of segments_of_section l.segments) (lists_of l.typing.lists.now).segments

abbrev pub decreases-loop-segments : goal.decreases-loop-segments
decreases-loop-segments l = length (walk_left data_segment.read segment_of segments_of_section l.segments)
