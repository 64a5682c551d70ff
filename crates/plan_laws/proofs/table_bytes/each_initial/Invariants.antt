use Rattle.std.proofs.Common.{ℕ, ◌<◌, get_or}
use Rattle.wasm_module.specs.declared.table_initialization.TableInitialValue.{TableInitialValue}
use Rattle.plan_laws.specs.Widths.{InitialFits}
use Rattle.plan_laws.proofs.table_bytes.each_initial.Given as goal

abbrev pub invariant-loop-value : goal.invariant-loop-value
invariant-loop-value l = (k : ℕ) (d : TableInitialValue) → k < l.value-index → InitialFits (get_or l.values k d)
