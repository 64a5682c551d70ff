use Rattle.std.proofs.Common.{ℕ, ◌<◌, get_or}
use Rattle.wasm_index.specs.declared.index.Index.{Index}
use Rattle.wasm_index.specs.declared.spaces.DefinedGlobalSpace.{DefinedGlobalSpace}
use Rattle.wasm_convert.specs.declared.values.GlobalConstValue.{GlobalConstValue}
use Rattle.plan_laws.specs.Widths.{GlobalFits}
use Rattle.plan_laws.proofs.table_bytes.each_global.Given as goal

abbrev pub invariant-loop-each : goal.invariant-loop-each
invariant-loop-each l = (k : ℕ) (d : Index DefinedGlobalSpace × GlobalConstValue) → k < l.each-index → GlobalFits (get_or l.globals k d)
