use Rattle.std.proofs.Common.{ℕ, ◌<◌, get_or}
use Rattle.wasm_module.specs.declared.initializer.Initializer.{Initializer}
use Rattle.plan_laws.specs.Widths.{ImportFits}
use Rattle.plan_laws.proofs.entity_bytes.each_import.Given as goal

abbrev pub invariant-loop-each : goal.invariant-loop-each
invariant-loop-each l = (k : ℕ) (d : Initializer) → k < l.each-index → ImportFits (get_or l.imports k d)
