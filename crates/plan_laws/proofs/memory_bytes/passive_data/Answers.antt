use Rattle.plan_laws.proofs.ListTexts.{passive-data-lines-short}
use Rattle.plan_laws.proofs.memory_bytes.passive_data.Goals as goal

pub returns : goal.returns
returns c = passive-data-lines-short c.args.data.now.items c.each_passive.ensures
