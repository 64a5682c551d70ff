use Rattle.replay_spec.proofs.Existing.{a-table-plan}
use Rattle.replay_spec.proofs.table_laws.table_plan_exists_law.Goals as goal

pub returns : goal.returns
returns c = a-table-plan
