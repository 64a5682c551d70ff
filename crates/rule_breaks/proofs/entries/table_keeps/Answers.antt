use Rattle.std.proofs.Common.{◌↔◌, Bool, IsTrue, sym, subst}
use Rattle.std.specs.Prelude.{IfOk}
use Rattle.rule_spec.specs.declared.rules.Rule.{Rule}
use Rattle.form_reader.specs.Views.{table_of}
use Rattle.form_rules.specs.Views.{lists_of}
use Rattle.rule_breaks.specs.Kept.{TableKeeps}
use Rattle.rule_breaks.proofs.entries.table_keeps.Goals as goal

pub returns-in-L6 : goal.returns-in-L6
returns-in-L6 c =
    let Kept : Rule → Type 0 = λ r. IfOk c.table_holds.result (λ (kept : Bool). IsTrue kept ↔ TableKeeps r (lists_of c.args.typing.now.lists.now) (table_of c.args.table.now)) in
    subst Kept (sym c.in-L6.is) c.table_holds.ensures
