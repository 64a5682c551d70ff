use Rattle.std.specs.Prelude.{List, All}
use Rattle.std.proofs.Common.{subst, arith}
use Rattle.std.specs.Global.{Vec}
use Rattle.wasm_index.specs.declared.index.Index.{Index}
use Rattle.wasm_index.specs.declared.spaces.FuncSpace.{FuncSpace}
use Rattle.plan_laws.specs.Widths.{TableImageFits}
use Rattle.plan_laws.proofs.ListTexts.{image-lines-short}
use Rattle.plan_laws.proofs.table_bytes.images.Goals as goal

pub returns : goal.returns
returns c =
    let P : List (Vec (Index FuncSpace)) → Type 0 = λ xs. All TableImageFits xs in
    image-lines-short c.args.images.now (omega arith) (subst P c.as_slice.ensures c.each_image.ensures)
