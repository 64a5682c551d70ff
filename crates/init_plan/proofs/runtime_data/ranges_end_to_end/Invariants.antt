use Rattle.std.proofs.Common.{◌≡◌, ◌+◌, ◌++◌, length, map, sum_by}
use Rattle.replay_spec.specs.Plan.{ranges_from}
use Rattle.init_plan.specs.Views.{bytes_of}
use Rattle.init_plan.proofs.runtime_data.ranges_end_to_end.Given as goal

-- the ranges so far, with those of the remaining data, are all ranges
abbrev pub invariant-loop-bytes : goal.invariant-loop-bytes
invariant-loop-bytes l = record {
  can_next : (goal.iterator-loop-bytes).can_next l.bytes-iterator;
  is_finite : (goal.iterator-loop-bytes).is_finite l.bytes-iterator;
  room : length l.ranges + length l.bytes-iterator ≡ length l.runtime_data;
  end : l.end + sum_by length (map bytes_of l.bytes-iterator) ≡ sum_by length (map bytes_of l.runtime_data);
  ranges : map (λ r. (r.start, r.end)) l.ranges ++ ranges_from l.end (map length (map bytes_of l.bytes-iterator))
      ≡ ranges_from 0 (map length (map bytes_of l.runtime_data));
}
