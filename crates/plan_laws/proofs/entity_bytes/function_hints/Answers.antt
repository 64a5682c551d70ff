use Rattle.plan_laws.proofs.ListTexts.{hint-lines-short}
use Rattle.plan_laws.proofs.entity_bytes.function_hints.Goals as goal

pub returns : goal.returns
returns c = hint-lines-short c.args.translation.now c.args.translation.now.module.functions c.each_hints.ensures
