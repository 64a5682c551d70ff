use Rattle.replay_spec.proofs.TablesWorked.{imaged-plan, longest-prefix}
use Rattle.replay_spec.proofs.worked_tables.worked_table_images.Goals as goal

pub returns-clause-functions_and_null : goal.returns-clause-functions_and_null
returns-clause-functions_and_null c = imaged-plan

pub returns-clause-prefix : goal.returns-clause-prefix
returns-clause-prefix c = longest-prefix
