use Rattle.std.proofs.Common.{◌↔◌, Bool, IsTrue, sym, subst}
use Rattle.std.specs.Prelude.{IfOk}
use Rattle.rule_spec.specs.declared.rules.Rule.{Rule}
use Rattle.form_reader.specs.Views.{segment_of}
use Rattle.form_rules.specs.Views.{lists_of}
use Rattle.rule_breaks.specs.Kept.{SegmentKeeps}
use Rattle.rule_breaks.proofs.segments.segment_keeps.Goals as goal

pub returns-in-L6 : goal.returns-in-L6
returns-in-L6 c =
    let Kept : Rule → Type 0 = λ r. IfOk c.segment_is_typed.result (λ (kept : Bool). IsTrue kept ↔ SegmentKeeps r (lists_of c.args.typing.now.lists.now) (segment_of c.args.segment.now)) in
    subst Kept (sym c.in-L6.is) c.segment_is_typed.ensures
