use Rattle.std.proofs.Common.{◌≡◌, ◌+◌, ◌++◌, length, map, drop}
use Rattle.init_plan.specs.Views.{passive_segment_of, bytes_of}
use Rattle.init_plan.proofs.Entered.{entered}
use Rattle.init_plan.proofs.runtime_data.keep_passive.Given as goal

-- with the remaining segments, the data and the map become what they become with all segments
abbrev pub invariant-loop-index : goal.invariant-loop-index
invariant-loop-index l = record {
  room : length l.runtime_data ≡ length l.fn.runtime_data + l.index-index;
  bytes : map bytes_of l.runtime_data ++ map (λ p. p.1) (map passive_segment_of (drop l.index-index l.segments))
      ≡ map bytes_of l.fn.runtime_data ++ map (λ p. p.1) (map passive_segment_of l.segments);
  entries : entered (length l.runtime_data) l.found (map (λ p. p.0) (map passive_segment_of (drop l.index-index l.segments)))
      ≡ entered (length l.fn.runtime_data) l.fn.found (map (λ p. p.0) (map passive_segment_of l.segments));
}
