use Rattle.std.proofs.Common.{sym, subst}
use Rattle.form_reader.specs.Views.{body_of}
use Rattle.form_rules.specs.Views.{lists_of}
use Rattle.rule_breaks.specs.FaultKept.{BodyFits}
use Rattle.rule_breaks.proofs.FirstPast.{none_past}
use Rattle.rule_breaks.proofs.Referring.{body_refers}
use Rattle.rule_breaks.proofs.faults_entries.body_fault.Goals as goal

pub unreachable-requires : goal.unreachable-requires
unreachable-requires c =
    c.requires.breaks (subst (λ r. BodyFits r (lists_of c.args.lists.now) (body_of c.args.body.now)) (sym c.in-L10.is)
    (body_refers _ (body_of c.args.body.now) (none_past _ _ _ _ c.count-types.ensures c.in-None.is c.body_past.ensures)))
