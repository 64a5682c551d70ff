use Rattle.std.proofs.Common.{◌≡◌, ◌<◌, ◌+◌, ◌-◌, ◌∙◌, ◌++◌, ◌∷◌, [], ℕ, length, map, drop, sym, ap, arith}
use Rattle.wasm_spec.specs.TypeData.{field_of}
use Rattle.rule_spec.specs.declared.classes.Class.{Class}
use Rattle.rule_spec.specs.Typing.{field_class}
use Rattle.form_rules.proofs.StackLemmas.{no_field, field_at, fields_lt, values_more, values_fail}
use Rattle.form_rules.proofs.stack.pop_fields.Goals as goal

pub loop-left-preserved : goal.loop-left-preserved
loop-left-preserved c =
    let fields = c.args.fields.now in
    let cs = map field_class (map field_of fields) in
    let i = c.loop-left.left - 1 in
    let lt : i < length fields = omega (arith, c.loop-left.invariant.within) in
    let here : i + 1 ≡ c.loop-left.left = omega arith in
    let at = field_at fields i lt ∙ sym c.field_class.ensures in
    record {
      within = omega (arith, c.loop-left.invariant.within);
      taken = values_more cs c.args.stack.now.items c.loop-left.stack.items c.pop.new.stack.items i (field_class (field_of no_field))
          (fields_lt fields i lt) (c.loop-left.invariant.taken ∙ ap (λ (n : ℕ). c.loop-left.stack.items ++ drop n cs) (sym here))
          (c.if-not-pop.ensures ∙ ap (λ (x : Class). c.pop.new.stack.items ++ x ∷ []) (sym at));
    }

pub returns-then-not-pop : goal.returns-then-not-pop
returns-then-not-pop c =
    let fields = c.args.fields.now in
    let cs = map field_class (map field_of fields) in
    let i = c.loop-left.left - 1 in
    let lt : i < length fields = omega (arith, c.loop-left.invariant.within) in
    let here : i + 1 ≡ c.loop-left.left = omega arith in
    let at = field_at fields i lt ∙ sym c.field_class.ensures in
    values_fail cs c.args.stack.now.items c.loop-left.stack.items i (field_class (field_of no_field)) (fields_lt fields i lt)
    (c.loop-left.invariant.taken ∙ ap (λ (n : ℕ). c.loop-left.stack.items ++ drop n cs) (sym here))
    (λ rest is. c.if-not-pop.ensures rest (is ∙ ap (λ (x : Class). rest ++ x ∷ []) at))
