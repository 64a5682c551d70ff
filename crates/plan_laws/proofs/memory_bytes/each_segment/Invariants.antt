use Rattle.std.proofs.Common.{ℕ, ◌<◌, get_or}
use Rattle.wasm_index.specs.declared.index.Index.{Index}
use Rattle.wasm_index.specs.declared.spaces.MemorySpace.{MemorySpace}
use Rattle.wasm_index.specs.declared.spaces.RuntimeDataSpace.{RuntimeDataSpace}
use Rattle.init_plan.specs.declared.translation.MemorySegmentOffset.{MemorySegmentOffset}
use Rattle.plan_laws.specs.Widths.{SegmentFits}
use Rattle.plan_laws.proofs.memory_bytes.each_segment.Given as goal

abbrev pub invariant-loop-each : goal.invariant-loop-each
invariant-loop-each l = (k : ℕ) (d : Index MemorySpace × MemorySegmentOffset × Index RuntimeDataSpace) → k < l.each-index → SegmentFits (get_or l.segments k d)
