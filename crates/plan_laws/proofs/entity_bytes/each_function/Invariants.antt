use Rattle.std.proofs.Common.{ℕ, ◌<◌, ◌^◌, get_or}
use Rattle.wasm_module.specs.declared.function.FunctionType.{FunctionType}
use Rattle.wasm_index.specs.Index.{number_of}
use Rattle.plan_laws.proofs.entity_bytes.each_function.Given as goal

abbrev pub invariant-loop-function : goal.invariant-loop-function
invariant-loop-function l = (k : ℕ) (d : FunctionType) → k < l.function-index → number_of (get_or l.functions k d).func_ref < 2 ^ 32
