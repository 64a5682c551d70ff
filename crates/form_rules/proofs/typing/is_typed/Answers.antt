use Rattle.std.proofs.Common.{◌∙◌, [], ◌∷◌, List, get_or, refl, sym, subst}
use Rattle.std.proofs.lemmas.List.{take_all}
use Rattle.wasm_spec.specs.declared.operators.Operator.{Operator}
use Rattle.rule_spec.specs.declared.classes.Class.{Class}
use Rattle.rule_spec.proofs.Stepping.{Leads, leads_to, has_class}
use Rattle.form_rules.specs.Views.{lists_of}
use Rattle.form_rules.proofs.Leading.{no_operator, leads_same, leads_more, leads_fail, one_leads}
use Rattle.form_rules.proofs.typing.is_typed.Goals as goal

pub returns-in-Some : goal.returns-in-Some
returns-in-Some c =
    let l = lists_of c.args.typing.now.lists.now in
    let ops = c.args.expression.now.ops.items in
    let both = one_leads l c.args.visible.now _ ops c.args.class _ c.in-Some.ensures c.is_i32.ensures in
    (λ typed. has_class l c.args.visible.now ops c.args.class (both.0 typed), λ typed. both.1 (leads_to l c.args.visible.now ops c.args.class typed))

pub loop-op-preserved : goal.loop-op-preserved
loop-op-preserved c =
    let ops = c.deref-op-items.result.now in
    leads_more (lists_of c.args.typing.now.lists.now) c.args.visible.now ops c.loop-op.op-index no_operator (get_or ops c.loop-op.op-index no_operator)
    c.loop-op.stack.items c.take_operands.new.stack.items c.push.new.self.items c.in-Some-take_operands.pushed c.loop-op-test.true refl
    c.loop-op.invariant c.in-Some-take_operands.ensures c.in_ok-push-in-Some-take_operands.ensures.items

pub returns-in-None : goal.returns-in-None
returns-in-None c =
    let l = lists_of c.args.typing.now.lists.now in
    let ops = c.deref-op-items.result.now in
    let P : List Operator → Type 0 = λ os. Leads l c.args.visible.now os [] (c.args.class ∷ []) in (
      λ answered. absurd (cc),
      λ typed. absurd (leads_fail l c.args.visible.now ops c.loop-op.op-index no_operator (get_or ops c.loop-op.op-index no_operator)
          c.loop-op.stack.items c.take_operands.new.stack.items (c.args.class ∷ []) c.loop-op-test.true refl
          c.loop-op.invariant c.in-None.ensures
          (subst P (sym c.deref-op-items.ensures.value) (leads_to l c.args.visible.now c.args.expression.now.ops.items c.args.class typed))),
    )

pub returns : goal.returns
returns c =
    let l = lists_of c.args.typing.now.lists.now in
    let ops = c.args.expression.now.ops.items in
    let P : List Operator → Type 0 = λ os. Leads l c.args.visible.now os [] c.loop-op.stack.items in
    let all = subst P (take_all c.loop-op.op-index c.deref-op-items.result.now c.loop-op-test.false ∙ c.deref-op-items.ensures.value) c.loop-op.invariant in (
      λ answered. has_class l c.args.visible.now ops c.args.class
          (subst (λ (s : List Class). Leads l c.args.visible.now ops [] s) (sym c.deref.ensures.value ∙ c.is_alone.ensures.0 answered) all),
      λ typed. c.is_alone.ensures.1 (c.deref.ensures.value
          ∙ leads_same l c.args.visible.now ops [] c.loop-op.stack.items (c.args.class ∷ []) all (leads_to l c.args.visible.now ops c.args.class typed)),
    )
