use Rattle.std.specs.Prelude.{List, All}
use Rattle.std.proofs.Common.{subst, arith}
use Rattle.std.specs.Prelude.{Option}
use Rattle.gc_layout.specs.declared.object.GcLayout.{GcLayout}
use Rattle.plan_laws.specs.Widths.{LayoutFits}
use Rattle.plan_laws.proofs.ListTexts.{layout-lines-short}
use Rattle.plan_laws.proofs.memory_bytes.layouts.Goals as goal

pub returns : goal.returns
returns c =
    let P : List (Option GcLayout) → Type 0 = λ xs. All LayoutFits xs in
    layout-lines-short c.args.layouts.now (omega arith) (subst P c.as_slice.ensures c.each_layout.ensures)
