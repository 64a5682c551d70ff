use Rattle.plan_laws.proofs.ListTexts.{startup-short}
use Rattle.plan_laws.proofs.entity_bytes.startup.Goals as goal

pub returns : goal.returns
returns c = startup-short c.args.startup.now c.startup_type.ensures
