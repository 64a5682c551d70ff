use Rattle.std.proofs.Common.{◌≡◌, true}
use Rattle.wasm_spec.specs.Module.{Expression}
use Rattle.form_reader.specs.Views.{expression_of}
use Rattle.rule_spec.specs.declared.classes.Class.TheVariants as class
use Rattle.rule_spec.specs.Typing.{HasClass}
use Rattle.form_rules.specs.Views.{lists_of}
use Rattle.form_types.proofs.AllOf.{items_more, items_fail}
use Rattle.form_rules.proofs.expressions.all_items_hold.Goals as goal

pub loop-item-preserved : goal.loop-item-preserved
loop-item-preserved c =
    items_more (λ (e : Expression). HasClass (lists_of c.args.typing.now.lists.now) c.args.typing.now.lists.now.spaces.global_types.items e class.Ref) expression_of c.args.items.now c.loop-item.item-index c.item-item.result c.loop-item-test.true c.item-item.is
    (c.in_ok-item_holds.ensures.0 c.if-not-branch.false) c.loop-item.invariant

pub returns-then-not-branch : goal.returns-then-not-branch
returns-then-not-branch c = (
  λ answered. absurd (cc),
  λ all. absurd (items_fail (λ (e : Expression). HasClass (lists_of c.args.typing.now.lists.now) c.args.typing.now.lists.now.spaces.global_types.items e class.Ref) expression_of c.args.items.now c.loop-item.item-index c.item-item.result
      c.loop-item-test.true c.item-item.is (λ here. let answered : c.in_ok-item_holds.field-0 ≡ true = c.in_ok-item_holds.ensures.1 here in absurd (cc)) all),
)
