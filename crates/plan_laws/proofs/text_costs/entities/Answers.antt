use Rattle.std.proofs.Common.{arith}
use Rattle.plan_text.specs.PlanText.{entities_text}
use Rattle.plan_laws.proofs.Lengths.{lengths-7}
use Rattle.plan_laws.proofs.ListTexts.{heap-line-short}
use Rattle.plan_laws.proofs.text_costs.entities.Goals as goal

pub returns : goal.returns
unfolding entities_text
returns c =
    let imports = rw c.as_slice.ensures.value at c.imports.ensures in
    let signatures = rw c.as_slice-2.ensures.value at c.signatures.ensures in
    rw lengths-7 (omega (
      arith,
      c.declared.ensures,
      imports,
      c.counts.ensures,
      heap-line-short c.args.t.now.module.needs_gc_heap,
      c.escapes.ensures,
      signatures,
      c.exports.ensures,
    ))
