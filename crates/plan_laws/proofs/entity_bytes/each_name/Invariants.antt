use Rattle.std.proofs.Common.{ℕ, ◌<◌, ◌^◌}
use Rattle.std.specs.List.{All}
use Rattle.std.specs.Prelude.{List}
use Rattle.std.specs.Borrow.{Bor}
use Rattle.wasm_index.specs.declared.index.Index.{Index}
use Rattle.wasm_index.specs.declared.spaces.FuncSpace.{FuncSpace}
use Rattle.wasm_index.specs.Index.{number_of}
use Rattle.plan_laws.proofs.entity_bytes.each_name.Given as goal

abbrev pub invariant-loop-index : goal.invariant-loop-index
invariant-loop-index l = All (λ (p : Index FuncSpace × Bor (List ℕ)). number_of p.0 < 2 ^ 32) l.index-iterator → All (λ (p : Index FuncSpace × Bor (List ℕ)). number_of p.0 < 2 ^ 32) l.names.entries
