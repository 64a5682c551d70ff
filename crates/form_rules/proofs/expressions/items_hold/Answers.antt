use Rattle.std.proofs.Common.{◌↔◌, Bool, IsTrue, List, All, map, sym, subst}
use Rattle.std.specs.Result.{IfOk}
use Rattle.wasm_spec.specs.Module.{Expression}
use Rattle.form_reader.specs.declared.form.ConstExpr.{ConstExpr}
use Rattle.form_reader.specs.declared.form.ElementItems.{ElementItems}
use Rattle.form_reader.specs.Views.{expression_of, items_of}
use Rattle.rule_spec.specs.declared.classes.Class.TheVariants as class
use Rattle.rule_spec.specs.Typing.{HasClass}
use Rattle.rule_spec.specs.Expressions.{HasTypedItems}
use Rattle.form_rules.specs.Views.{lists_of}
use Rattle.form_rules.proofs.expressions.items_hold.Goals as goal

pub returns-in-Expressions : goal.returns-in-Expressions
returns-in-Expressions c =
    let l = lists_of c.args.typing.now.lists.now in
    let P : List ConstExpr → Type 0 = λ es. IfOk c.all_items_hold.result (λ (hold : Bool). IsTrue hold ↔ All (λ (e : Expression). HasClass l l.global_types e class.Ref) (map expression_of es)) in
    let Q : ElementItems → Type 0 = λ its. IfOk c.all_items_hold.result (λ (hold : Bool). IsTrue hold ↔ HasTypedItems l (items_of its)) in
    subst Q (sym c.in-Expressions.is) (subst P c.deref.ensures.value c.all_items_hold.ensures)
