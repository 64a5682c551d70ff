use Rattle.std.proofs.Common.{◌≡◌, ◌+◌, length}
use Rattle.wasm_spec.specs.Module.{segments, segments_of_section}
use Rattle.form_reader.specs.Views.{segment_of}
use Rattle.form_reader.specs.SectionRows.{data_segment}
use Rattle.form_rules.specs.Source.{source_module}
use Rattle.form_rules.specs.Walk.{walk_left}
use Rattle.rule_breaks.proofs.segments.count_segments.Given as goal

-- the remaining ones are still to be counted
abbrev pub invariant-loop-walk : goal.invariant-loop-walk
invariant-loop-walk l = l.count + length (walk_left data_segment.read segment_of segments_of_section l.walk) ≡ length (segments (source_module l.source))

abbrev pub decreases-loop-walk : goal.decreases-loop-walk
decreases-loop-walk l = length (walk_left data_segment.read segment_of segments_of_section l.walk)
