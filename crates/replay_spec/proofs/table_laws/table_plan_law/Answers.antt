use Rattle.replay_spec.proofs.TablesJoined.{tables-agree}
use Rattle.replay_spec.proofs.table_laws.table_plan_law.Goals as goal

pub returns : goal.returns
returns c = tables-agree
