use Rattle.std.specs.Prelude.{List, All}
use Rattle.std.proofs.Common.{subst, arith}
use Rattle.std.specs.Prelude.{ℕ}
use Rattle.std.specs.declared.ops.Range.{Range}
use Rattle.plan_laws.specs.Widths.{RangeFits}
use Rattle.plan_laws.proofs.ListTexts.{runtime-lines-short}
use Rattle.plan_laws.proofs.memory_bytes.runtime_data.Goals as goal

pub returns : goal.returns
returns c =
    let P : List (Range ℕ) → Type 0 = λ xs. All RangeFits xs in
    runtime-lines-short c.args.ranges.now (omega arith) (subst P c.as_slice.ensures c.each_range.ensures)
