use Rattle.plan_laws.proofs.ListTexts.{start-short}
use Rattle.plan_laws.proofs.entity_bytes.start.Goals as goal

pub returns : goal.returns
returns c = start-short c.args.start c.function.ensures
