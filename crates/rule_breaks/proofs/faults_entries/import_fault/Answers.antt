use Rattle.rule_breaks.proofs.FirstPast.{none_past}
use Rattle.rule_breaks.proofs.Referring.{import_refers}
use Rattle.rule_breaks.proofs.faults_entries.import_fault.Goals as goal

pub unreachable-requires : goal.unreachable-requires
unreachable-requires c = c.requires (import_refers _ c.args.ty.now (none_past _ _ _ _ c.count-types.ensures c.in-None.is c.import_past.ensures))
