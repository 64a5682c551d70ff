use Rattle.std.proofs.Common.{◌<◌, ◌≤◌, ◌-◌, length, slice_get}
use Rattle.std.specs.Prelude.{IfSome}
use Rattle.planner_c.proofs.program_tables.exporter_of.Given as goal

abbrev pub decreases-halves : goal.decreases-halves
decreases-halves l = l.high - l.low

abbrev pub invariant-halves : goal.invariant-halves
invariant-halves l = record {
  order : l.low < l.high;
  within : l.high < length l.linked;
  from : IfSome (slice_get l.linked l.low) (λ x. x.first_export ≤ l.number);
  before : IfSome (slice_get l.linked l.high) (λ x. l.number < x.first_export);
}
