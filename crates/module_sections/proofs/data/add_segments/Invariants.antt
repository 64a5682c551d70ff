use Rattle.std.proofs.Common.{◌≡◌, ◌+◌, ◌<◌, ◌++◌, length, map}
use Rattle.std.specs.List.{filter_map}
use Rattle.wasm_spec.specs.Module.{segments, segments_of_section}
use Rattle.form_reader.specs.Views.{segment_of}
use Rattle.form_reader.specs.SectionRows.{data_segment}
use Rattle.form_rules.specs.Source.{source_module}
use Rattle.form_rules.specs.Walk.{walk_left}
use Rattle.replay_spec.specs.Data.{active_of_kind}
use Rattle.replay_spec.specs.Held.{held_segment, held_segments}
use Rattle.memory_images.specs.Views.{active_segment_of}
use Rattle.init_plan.specs.Views.{passive_data_of, SameButPassive}
use Rattle.module_sections.specs.Initialisers.{passive_data_from}
use Rattle.module_sections.specs.Segments.{AreDataConvertible}
use Rattle.module_sections.proofs.data.add_segments.Given as goal

-- with the remaining segments, all active ones are added and all passive ones are recorded
abbrev pub invariant-loop-segments : goal.invariant-loop-segments
invariant-loop-segments g l =
    let left = walk_left data_segment.read segment_of segments_of_section l.segments in
    record {
      few : l.index + length left < 1073741824;
      convertible : AreDataConvertible ((goal.TypeConvert-dyn g l.env.now).knows l.env.now.1) left;
      added : map active_segment_of l.active.items ++ map held_segment (filter_map (λ s. active_of_kind s.kind s.bytes) left) ≡ held_segments (source_module l.source);
      noted : passive_data_of l.translation ++ passive_data_from l.index left
          ≡ passive_data_of l.initial.translation ++ passive_data_from 0 (segments (source_module l.source));
      same : SameButPassive l.initial.translation l.translation;
    }

abbrev pub decreases-loop-segments : goal.decreases-loop-segments
decreases-loop-segments g l = length (walk_left data_segment.read segment_of segments_of_section l.segments)
