use Rattle.plan_laws.proofs.ListTexts.{first-lines-short}
use Rattle.plan_laws.proofs.table_bytes.first_values.Goals as goal

pub returns : goal.returns
returns c = first-lines-short c.args.globals.now c.each_first.ensures
