use Rattle.std.proofs.Common.{◌≡◌, ◌↔◌, Bool, IsTrue, Result, sym, subst}
use Rattle.std.specs.Result.{IfOk}
use Rattle.rule_spec.specs.Lists.{Lists}
use Rattle.rule_spec.specs.declared.rules.Rule.{Rule}
use Rattle.rule_spec.specs.Rules.{Satisfies}
use Rattle.form_rules.specs.Views.{lists_of}
use Rattle.form_rules.proofs.rules.keeps.Goals as goal

-- a result for the rule of a match arm is one for the rule that was checked
equal-result : {E : Type 0} (l : Lists) {rule arm : Rule} (result : Result Bool E) → rule ≡ arm
    → IfOk result (λ (kept : Bool). IsTrue kept ↔ Satisfies arm l) → IfOk result (λ (kept : Bool). IsTrue kept ↔ Satisfies rule l)
equal-result l result is = subst (λ r. IfOk result (λ (kept : Bool). IsTrue kept ↔ Satisfies r l)) (sym is)

pub returns-in-L2 : goal.returns-in-L2
returns-in-L2 c = equal-result (lists_of c.args.typing.now.lists.now) c.types_are_named.result c.in-L2.is c.types_are_named.ensures

pub returns-in-L6 : goal.returns-in-L6
returns-in-L6 c = equal-result (lists_of c.args.typing.now.lists.now) c.expressions_hold.result c.in-L6.is c.expressions_hold.ensures
