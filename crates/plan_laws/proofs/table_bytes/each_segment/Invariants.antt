use Rattle.std.proofs.Common.{ℕ, ◌<◌, get_or}
use Rattle.wasm_module.specs.declared.table_initialization.TableSegment.{TableSegment}
use Rattle.plan_laws.specs.Widths.{ElementsFit}
use Rattle.plan_laws.proofs.table_bytes.each_segment.Given as goal

abbrev pub invariant-loop-each : goal.invariant-loop-each
invariant-loop-each l = (k : ℕ) (d : TableSegment) → k < l.each-index → ElementsFit (get_or l.segments k d)
