use Rattle.std.proofs.Common.{ℕ, ◌<◌, ◌≤◌, ◌≡◌, Some, length}
use Rattle.std.specs.Prelude.{slice_get}
use Rattle.std.specs.Global.{Vec}
use Rattle.wasm_index.specs.declared.index.Index.{Index}
use Rattle.wasm_index.specs.declared.spaces.FuncSpace.{FuncSpace}
use Rattle.wasm_types.specs.declared.table.Table.{Table}
use Rattle.plan_run.proofs.finished.are_short.Given as goal

abbrev pub invariant-loop-i : goal.invariant-loop-i
invariant-loop-i l = (k : ℕ) (t : Table) (image : Vec (Index FuncSpace)) → k < l.i → slice_get l.tables k ≡ Some t → slice_get l.images k ≡ Some image
    → length image.items ≤ t.limits.min
