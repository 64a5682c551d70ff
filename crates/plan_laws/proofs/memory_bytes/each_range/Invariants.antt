use Rattle.std.proofs.Common.{ℕ, ◌<◌, get_or}
use Rattle.std.specs.declared.ops.Range.{Range}
use Rattle.plan_laws.specs.Widths.{RangeFits}
use Rattle.plan_laws.proofs.memory_bytes.each_range.Given as goal

abbrev pub invariant-loop-each : goal.invariant-loop-each
invariant-loop-each l = (k : ℕ) (d : Range ℕ) → k < l.each-index → RangeFits (get_or l.ranges k d)
