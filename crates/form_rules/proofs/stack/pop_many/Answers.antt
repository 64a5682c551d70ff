use Rattle.std.proofs.Common.{◌≡◌, ◌<◌, ◌+◌, ◌-◌, ◌∙◌, ◌++◌, ◌∷◌, [], ℕ, length, replicate, drop, get_or, sym, ap, arith}
use Rattle.std.proofs.lemmas.List.{length-replicate, get_or-replicate}
use Rattle.rule_spec.specs.declared.classes.Class.{Class}
use Rattle.form_rules.proofs.StackLemmas.{values_more, values_fail, Popped-true, Popped-false}
use Rattle.form_rules.proofs.stack.pop_many.Goals as goal

pub loop-left-preserved : goal.loop-left-preserved
loop-left-preserved c =
    let cs = replicate c.args.count c.args.class in
    let i = c.loop-left.left - 1 in
    let lt : i < length cs = omega (arith, length-replicate c.args.count c.args.class) in
    let here : i + 1 ≡ c.loop-left.left = omega arith in
    let at : get_or cs i c.args.class ≡ c.args.class = get_or-replicate c.args.count i c.args.class c.args.class (omega arith) in
    record {
      within = omega arith;
      taken = values_more cs c.args.stack.now.items c.loop-left.stack.items c.pop.new.stack.items i c.args.class lt
          (c.loop-left.invariant.taken ∙ ap (λ (n : ℕ). c.loop-left.stack.items ++ drop n cs) (sym here))
          (Popped-true (c.args.class ∷ []) c.loop-left.stack.items c.pop.new.stack.items c.pop.result c.if-not-pop.false c.pop.ensures
          ∙ ap (λ (x : Class). c.pop.new.stack.items ++ x ∷ []) (sym at));
    }

pub returns-then-not-pop : goal.returns-then-not-pop
returns-then-not-pop c =
    let cs = replicate c.args.count c.args.class in
    let i = c.loop-left.left - 1 in
    let lt : i < length cs = omega (arith, length-replicate c.args.count c.args.class) in
    let here : i + 1 ≡ c.loop-left.left = omega arith in
    let at : get_or cs i c.args.class ≡ c.args.class = get_or-replicate c.args.count i c.args.class c.args.class (omega arith) in
    values_fail cs c.args.stack.now.items c.loop-left.stack.items i c.args.class lt
    (c.loop-left.invariant.taken ∙ ap (λ (n : ℕ). c.loop-left.stack.items ++ drop n cs) (sym here))
    (λ rest is. Popped-false (c.args.class ∷ []) c.loop-left.stack.items c.pop.new.stack.items c.pop.result c.if-not-pop.true c.pop.ensures rest
    (is ∙ ap (λ (x : Class). rest ++ x ∷ []) at))
