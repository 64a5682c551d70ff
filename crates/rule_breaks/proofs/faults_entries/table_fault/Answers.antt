use Rattle.std.proofs.Common.{sym, subst}
use Rattle.form_reader.specs.Views.{table_of}
use Rattle.form_rules.specs.Views.{lists_of}
use Rattle.rule_breaks.specs.Kept.{TableKeeps}
use Rattle.rule_breaks.proofs.FirstPast.{none_past}
use Rattle.rule_breaks.proofs.Referring.{table_refers}
use Rattle.rule_breaks.proofs.faults_entries.table_fault.Goals as goal

pub unreachable-requires : goal.unreachable-requires
unreachable-requires c =
    c.requires (subst (λ r. TableKeeps r (lists_of c.args.lists.now) (table_of c.args.table.now)) (sym c.in-L10.is)
    (table_refers _ _ (none_past _ _ _ _ c.count-types.ensures c.in-None.is c.table_past.ensures)))
