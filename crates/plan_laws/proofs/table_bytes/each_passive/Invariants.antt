use Rattle.std.proofs.Common.{ℕ, ◌<◌, get_or}
use Rattle.wasm_types.specs.declared.value.WasmRefType.{WasmRefType}
use Rattle.plan_laws.specs.Widths.{PassiveFits}
use Rattle.plan_laws.proofs.table_bytes.each_passive.Given as goal

abbrev pub invariant-loop-each : goal.invariant-loop-each
invariant-loop-each l = (k : ℕ) (d : WasmRefType × ℕ) → k < l.each-index → PassiveFits (get_or l.elements k d)
