use Rattle.std.proofs.Common.{arith}
use Rattle.plan_text.specs.PlanText.{tables_text}
use Rattle.plan_laws.proofs.Lengths.{lengths-7}
use Rattle.plan_laws.proofs.text_costs.tables.Goals as goal

pub returns : goal.returns
unfolding tables_text
returns c =
    let globals = rw c.as_slice.ensures.value at c.globals.ensures in
    let firsts = rw c.as_slice-2.ensures.value at c.first_values.ensures in
    let segments = rw c.as_slice-3.ensures.value at c.element_segments.ensures in
    rw lengths-7 (omega (
      arith,
      c.start.ensures,
      globals,
      firsts,
      c.initial_values.ensures,
      c.images.ensures,
      segments,
      c.passive_elements.ensures,
    ))
