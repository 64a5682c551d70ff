use Rattle.std.proofs.Common.{ℕ, ◌<◌, get_or}
use Rattle.std.specs.Prelude.{Option}
use Rattle.wasm_index.specs.declared.index.Index.{Index}
use Rattle.wasm_index.specs.declared.spaces.RuntimeDataSpace.{RuntimeDataSpace}
use Rattle.plan_laws.specs.Widths.{MemoryFits}
use Rattle.plan_laws.proofs.memory_bytes.each_image.Given as goal

abbrev pub invariant-loop-each : goal.invariant-loop-each
invariant-loop-each l = (k : ℕ) (d : Option (ℕ × Index RuntimeDataSpace)) → k < l.each-index → MemoryFits (get_or l.images k d)
