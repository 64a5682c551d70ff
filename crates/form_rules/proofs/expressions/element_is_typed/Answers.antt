use Rattle.form_reader.specs.Views.{element_of}
use Rattle.form_rules.specs.Views.{lists_of}
use Rattle.form_rules.proofs.ElementsTyped.{with_offset}
use Rattle.form_rules.proofs.expressions.element_is_typed.Goals as goal

pub returns : goal.returns
returns c =
    with_offset (lists_of c.args.typing.now.lists.now) c.items_hold.result (element_of c.args.element.now) c.items_hold.ensures
    (c.in_ok-table_offset_holds.ensures.0 c.if-not-branch.false)
