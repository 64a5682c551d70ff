use Rattle.std.proofs.Common.{ℕ, ◌<◌, ◌^◌, get_or}
use Rattle.wasm_index.specs.declared.index.Index.{Index}
use Rattle.wasm_index.specs.declared.spaces.FuncSpace.{FuncSpace}
use Rattle.wasm_index.specs.Index.{number_of}
use Rattle.plan_laws.proofs.table_bytes.cells.Given as goal

abbrev pub invariant-loop-function : goal.invariant-loop-function
invariant-loop-function l = (k : ℕ) (d : Index FuncSpace) → k < l.function-index → number_of (get_or l.cells k d) < 2 ^ 32
