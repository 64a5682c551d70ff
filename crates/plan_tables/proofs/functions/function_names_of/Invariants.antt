use Rattle.std.proofs.Common.{◌≡◌, ◌++◌, map}
use Rattle.wasm_index.specs.Index.{number_of}
use Rattle.plan_tables.specs.Functions.{name_told}
use Rattle.plan_tables.proofs.functions.function_names_of.Given as goal

abbrev pub invariant-loop-function : goal.invariant-loop-function
invariant-loop-function l = map name_told l.rows.items ++ map (λ name. (number_of name.0, name.1.now)) l.function-iterator ≡ map (λ name. (number_of name.0, name.1.now)) l.names.entries
