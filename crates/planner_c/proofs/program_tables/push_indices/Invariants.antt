use Rattle.std.proofs.Common.{◌≡◌, ◌++◌, map, take}
use Rattle.wasm_index.specs.Index.{number_of}
use Rattle.planner_c.proofs.program_tables.push_indices.Given as goal

abbrev pub invariant-loop-index : goal.invariant-loop-index
invariant-loop-index l = l.numbers.items ≡ l.initial.numbers.items ++ map number_of (take l.index-index l.indices)
