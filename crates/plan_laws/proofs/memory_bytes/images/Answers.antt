use Rattle.std.specs.Prelude.{List, All}
use Rattle.std.proofs.Common.{subst, arith}
use Rattle.std.specs.Prelude.{ℕ, Option}
use Rattle.wasm_index.specs.declared.index.Index.{Index}
use Rattle.wasm_index.specs.declared.spaces.RuntimeDataSpace.{RuntimeDataSpace}
use Rattle.plan_laws.specs.Widths.{MemoryFits}
use Rattle.plan_laws.proofs.ListTexts.{memory-lines-short}
use Rattle.plan_laws.proofs.memory_bytes.images.Goals as goal

pub returns : goal.returns
returns c =
    let P : List (Option (ℕ × Index RuntimeDataSpace)) → Type 0 = λ xs. All MemoryFits xs in
    memory-lines-short c.args.images.now (omega arith) (subst P c.as_slice.ensures c.each_image.ensures)
