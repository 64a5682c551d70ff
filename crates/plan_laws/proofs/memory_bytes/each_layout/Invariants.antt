use Rattle.std.proofs.Common.{ℕ, ◌<◌, get_or}
use Rattle.std.specs.Prelude.{Option}
use Rattle.gc_layout.specs.declared.object.GcLayout.{GcLayout}
use Rattle.plan_laws.specs.Widths.{LayoutFits}
use Rattle.plan_laws.proofs.memory_bytes.each_layout.Given as goal

abbrev pub invariant-loop-each : goal.invariant-loop-each
invariant-loop-each l = (k : ℕ) (d : Option GcLayout) → k < l.each-index → LayoutFits (get_or l.layouts k d)
