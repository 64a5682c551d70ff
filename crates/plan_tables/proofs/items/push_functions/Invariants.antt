use Rattle.std.proofs.Common.{◌≡◌, ◌++◌, map, take}
use Rattle.wasm_index.specs.Index.{number_of}
use Rattle.plan_tables.proofs.items.push_functions.Given as goal

abbrev pub invariant-loop-function : goal.invariant-loop-function
invariant-loop-function l = l.rows.items ≡ l.initial.rows.items ++ map number_of (take l.function-index l.functions)
