use Rattle.std.proofs.Common.{◌≡◌, ◌-◌, ◌*◌, ◌≤◌, length, take, sum_by}
use Rattle.plan_text.proofs.summary.runtime_total.Given as goal

-- the bytes of the ranges so far, of which each has fewer than 2 ^ 32
abbrev pub invariant-loop-number : goal.invariant-loop-number
invariant-loop-number l = record {
  within : l.number ≤ length l.ranges;
  sum : l.total ≡ sum_by (λ range. range.end - range.start) (take l.number l.ranges);
  bound : l.total ≤ l.number * 4294967295;
}
