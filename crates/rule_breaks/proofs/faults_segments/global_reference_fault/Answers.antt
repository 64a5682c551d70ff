use Rattle.rule_breaks.proofs.FirstPast.{none_past}
use Rattle.rule_breaks.proofs.Referring.{global_refers}
use Rattle.rule_breaks.proofs.faults_segments.global_reference_fault.Goals as goal

pub unreachable-requires : goal.unreachable-requires
unreachable-requires c = c.requires (global_refers _ _ (none_past _ _ _ _ c.count-types.ensures c.in-None.is c.global_past.ensures))
