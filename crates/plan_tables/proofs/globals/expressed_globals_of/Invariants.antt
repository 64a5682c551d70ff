use Rattle.std.proofs.Common.{◌≡◌, map, take}
use Rattle.wasm_index.specs.Index.{number_of}
use Rattle.plan_tables.proofs.globals.expressed_globals_of.Given as goal

abbrev pub invariant-loop-global : goal.invariant-loop-global
invariant-loop-global l = l.numbers.items ≡ map (λ g. number_of g.0) (take l.global-index l.globals)
