use Rattle.std.proofs.Common.{ℕ, ◌<◌, get_or}
use Rattle.std.specs.Global.{Vec}
use Rattle.wasm_index.specs.declared.index.Index.{Index}
use Rattle.wasm_index.specs.declared.spaces.FuncSpace.{FuncSpace}
use Rattle.plan_laws.specs.Widths.{TableImageFits}
use Rattle.plan_laws.proofs.table_bytes.each_image.Given as goal

abbrev pub invariant-loop-each : goal.invariant-loop-each
invariant-loop-each l = (k : ℕ) (d : Vec (Index FuncSpace)) → k < l.each-index → TableImageFits (get_or l.images k d)
