use Rattle.std.proofs.Common.{◌≡◌, ◌++◌, map, take}
use Rattle.wasm_index.specs.Index.{number_of}
use Rattle.plan_tables.proofs.tables.push_cells.Given as goal

abbrev pub invariant-loop-function : goal.invariant-loop-function
invariant-loop-function l = l.cells.items ≡ l.initial.cells.items ++ map number_of (take l.function-index l.image)
