use Rattle.std.proofs.Common.{◌≡◌, length, take, sum_by}
use Rattle.init_plan.proofs.runtime_data.active_length.Given as goal

abbrev pub invariant-loop-segment : goal.invariant-loop-segment
invariant-loop-segment l = l.total ≡ sum_by (λ s. length s.bytes.now) (take l.segment-index l.active)
