use Rattle.std.proofs.Common.{ℕ, ◌<◌, get_or}
use Rattle.std.specs.Prelude.{List}
use Rattle.wasm_index.specs.declared.index.Index.{Index}
use Rattle.wasm_index.specs.declared.spaces.DefinedGlobalSpace.{DefinedGlobalSpace}
use Rattle.wasm_convert.specs.declared.operators.ConstOp.{ConstOp}
use Rattle.plan_laws.specs.Widths.{FirstFits}
use Rattle.plan_laws.proofs.table_bytes.each_first.Given as goal

abbrev pub invariant-loop-each : goal.invariant-loop-each
invariant-loop-each l = (k : ℕ) (d : Index DefinedGlobalSpace × List ConstOp) → k < l.each-index → FirstFits (get_or l.globals k d)
