use Rattle.std.proofs.Common.{sym, subst}
use Rattle.form_reader.specs.Views.{element_of}
use Rattle.form_rules.specs.Views.{lists_of}
use Rattle.rule_breaks.specs.Kept.{ElementKeeps}
use Rattle.rule_breaks.proofs.FirstPast.{none_past}
use Rattle.rule_breaks.proofs.Referring.{element_refers}
use Rattle.rule_breaks.proofs.faults_segments.element_fault.Goals as goal

pub unreachable-requires : goal.unreachable-requires
unreachable-requires c =
    c.requires (subst (λ r. ElementKeeps r (lists_of c.args.lists.now) (element_of c.args.element.now)) (sym c.in-L10.is)
    (element_refers _ _ (none_past _ _ _ _ c.count-types.ensures c.in-None.is c.element_past.ensures)))
