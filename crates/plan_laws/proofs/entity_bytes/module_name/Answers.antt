use Rattle.plan_laws.proofs.ListTexts.{module-lines-short}
use Rattle.plan_laws.proofs.entity_bytes.module_name.Goals as goal

pub returns : goal.returns
returns c = module-lines-short c.args.pool.now c.args.name
