use Rattle.std.proofs.Common.{◌≡◌, ◌+◌, length, take, sum_by}
use Rattle.init_plan.proofs.runtime_data.with_passive_lengths.Given as goal

abbrev pub invariant-loop-bytes : goal.invariant-loop-bytes
invariant-loop-bytes l = l.total ≡ l.before + sum_by (λ p. length p.1.now) (take l.bytes-index l.passive)
