use Rattle.std.proofs.Common.{◌≡◌, ◌+◌, ◌++◌, length, map}
use Rattle.std.specs.Vec.Iter.{into_iter_items}
use Rattle.replay_spec.specs.Plan.{planned_from}
use Rattle.memory_images.specs.Views.{active_segment_of}
use Rattle.init_plan.specs.Views.{planned_segment_of, bytes_of}
use Rattle.init_plan.proofs.runtime_data.keep_active.Given as goal

-- what is planned so far, with the plan of the remaining segments, is the plan of all segments
abbrev pub invariant-loop-segment : goal.invariant-loop-segment
invariant-loop-segment l = record {
  room : length l.runtime_data + length (into_iter_items l.segment-iterator) ≡ length l.fn.runtime_data + length l.fn.segments.items;
  kept : map planned_segment_of l.kept.items ++ planned_from (length l.runtime_data)
      (map active_segment_of (into_iter_items l.segment-iterator))
      ≡ planned_from (length l.fn.runtime_data) (map active_segment_of l.fn.segments.items);
  bytes : map bytes_of l.runtime_data ++ map (λ s. s.bytes) (map active_segment_of (into_iter_items l.segment-iterator))
      ≡ map bytes_of l.fn.runtime_data ++ map (λ s. s.bytes) (map active_segment_of l.fn.segments.items);
}
