use Rattle.std.proofs.Common.{◌≡◌, ◌++◌, ◌<◌, length, map, List, get_or, arith, sym}
use Rattle.std.proofs.lemmas.Grind.{common_steps}
use Rattle.std.proofs.lemmas.List.{length-map}
use Rattle.std.specs.List.{flat_map}
use Rattle.plan_tables.specs.Items.{expressions_in}
use Rattle.plan_tables.specs.Operators.{operator_row}
use Rattle.plan_tables.proofs.Spans.{parts_step, made_step}
use Rattle.plan_tables.proofs.items.element_items_of.Goals as goal

-- after one more segment
pub loop-holder-preserved : goal.loop-holder-preserved
loop-holder-preserved g c = record {
  rows = grind (arith, common_steps);
  functions = grind (arith, common_steps);
  parts =
      let inside : c.loop-holder.holder-index < length c.args.holders.now = grind arith in
      let item : c.expressions_in-expressed.result.now ≡ expressions_in (g.T.HasElements.elements (get_or c.args.holders.now c.loop-holder.holder-index c.holder-item.result))
      = grind (arith, common_steps) in
      parts_step (λ e. length e) (λ e. map operator_row e) (λ e. length-map e operator_row) (λ h. expressions_in (g.T.HasElements.elements h)) c.args.holders.now
      c.loop-holder.holder-index c.holder-item.result c.loop-holder.parts.items c.push_expressions.new.parts.items c.loop-holder.operators.items
      c.push_expressions.new.operators.items _ inside (rw (sym item) c.in_ok-push_expressions.ensures.parts) (rw (sym item) c.in_ok-push_expressions.ensures.operators)
      c.loop-holder.invariant.parts;
  operators =
      let inside : c.loop-holder.holder-index < length c.args.holders.now = grind arith in
      let item : c.expressions_in-expressed.result.now ≡ expressions_in (g.T.HasElements.elements (get_or c.args.holders.now c.loop-holder.holder-index c.holder-item.result))
      = grind (arith, common_steps) in
      made_step (λ e. map operator_row e) (λ h. expressions_in (g.T.HasElements.elements h)) c.args.holders.now
      c.loop-holder.holder-index c.holder-item.result c.loop-holder.operators.items
      c.push_expressions.new.operators.items _ inside (rw (sym item) c.in_ok-push_expressions.ensures.operators) c.loop-holder.invariant.operators;
}
