use Rattle.plan_laws.proofs.ListTexts.{name-lines-short}
use Rattle.plan_laws.proofs.entity_bytes.function_names.Goals as goal

pub returns : goal.returns
returns c = name-lines-short c.args.names.now.entries c.each_name.ensures
