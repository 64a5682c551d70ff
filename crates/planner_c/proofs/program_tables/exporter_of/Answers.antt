use Rattle.std.proofs.Common.{◌≡◌, ◌∙◌, ◌<◌, ◌≤◌, ◌+◌, ℕ, Some, Option, slice_get, slice_index_or, sym, ap, subst, arith}
use Rattle.std.specs.Prelude.{IfSome}
use Rattle.std.proofs.lemmas.Option.{slice_get-get_or}
use Rattle.plan_link.specs.declared.program.LinkedModule.{LinkedModule}
use Rattle.planner_c.proofs.program_tables.exporter_of.Goals as goal

-- the search ends where the next module is the one that is too late
pub returns : goal.returns
returns c =
    let linked = c.args.linked.now in
    let low = c.halves.low in
    let high = c.halves.high in
    let number = c.args.number in
    let inv = c.halves.invariant in
    let x : LinkedModule = slice_index_or linked low c.index-linked-low.result in
    let y : LinkedModule = slice_index_or linked high c.index-linked-low.result in
    let at : slice_get linked low ≡ Some x = slice_get-get_or linked low c.index-linked-low.result (omega (arith, inv.order, inv.within)) in
    let at_high : slice_get linked high ≡ Some y = slice_get-get_or linked high c.index-linked-low.result inv.within in
    let next_is : low + 1 ≡ high = omega (arith, inv.order, c.halves-test.false) in
    let from : x.first_export ≤ number = subst (λ (o : Option LinkedModule). IfSome o (λ z. z.first_export ≤ number)) at inv.from in
    record {
      exporter = x;
      next = y;
      at = at;
      next_at = ap (slice_get linked) next_is ∙ at_high;
      counted = omega (arith, from);
      before = subst (λ (o : Option LinkedModule). IfSome o (λ z. number < z.first_export)) at_high inv.before;
    }
