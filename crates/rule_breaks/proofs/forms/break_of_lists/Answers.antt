use Rattle.form_reader.specs.Views.{module_of}
use Rattle.rule_breaks.proofs.forms.break_of_lists.Goals as goal

-- where the first rule is kept, types are numbered
pub unreachable-requires : goal.unreachable-requires
unreachable-requires c =
    let some = (c.in-None.ensures.well (module_of c.args.form.now) c.in_ok-numbering.ensures).1 c.requires in
    absurd (cc)
