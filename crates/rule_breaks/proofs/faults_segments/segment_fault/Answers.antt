use Rattle.std.proofs.Common.{sym, subst}
use Rattle.form_reader.specs.Views.{segment_of}
use Rattle.form_rules.specs.Views.{lists_of}
use Rattle.rule_breaks.specs.Kept.{SegmentKeeps}
use Rattle.rule_breaks.proofs.FirstPast.{none_past}
use Rattle.rule_breaks.proofs.Referring.{segment_refers}
use Rattle.rule_breaks.proofs.faults_segments.segment_fault.Goals as goal

pub unreachable-requires : goal.unreachable-requires
unreachable-requires c =
    c.requires (subst (λ r. SegmentKeeps r (lists_of c.args.lists.now) (segment_of c.args.segment.now)) (sym c.in-L10.is)
    (segment_refers _ _ (none_past _ _ _ _ c.count-types.ensures c.in-None.is c.segment_past.ensures)))
