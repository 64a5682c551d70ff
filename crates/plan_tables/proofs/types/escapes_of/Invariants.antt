use Rattle.std.proofs.Common.{◌≡◌, map, take}
use Rattle.wasm_index.specs.Index.{number_of}
use Rattle.plan_tables.proofs.types.escapes_of.Given as goal

abbrev pub invariant-loop-function : goal.invariant-loop-function
invariant-loop-function l = l.numbers.items ≡ map (λ f. number_of f.func_ref) (take l.function-index l.functions)
