use Rattle.std.proofs.Common.{sym, subst}
use Rattle.replay_spec.specs.Tables.{AgreesOnTables}
use Rattle.replay_spec.proofs.TablesJoined.{tables-agree}
use Rattle.init_plan.specs.Tables.{tables_of, elements_of, plan_of_tables}
use Rattle.init_plan.proofs.translation.ModuleTranslation.finalize_table_init.Goals as goal

pub returns-clause-agrees : goal.returns-clause-agrees
returns-clause-agrees c =
    let old = c.args.self.now in
    subst (λ t. AgreesOnTables old.module.num_imported_tables (tables_of old) (elements_of old) (plan_of_tables t)) (sym c.in_ok-raise_startup_by_tables.ensures.ok)
    (tables-agree c.args.tunables.now.table_lazy_init old.module.num_imported_tables (tables_of old) (elements_of old) (plan_of_tables c.plan_table_images.new.self)
    c.in_ok-plan_table_images.ensures.planned)
