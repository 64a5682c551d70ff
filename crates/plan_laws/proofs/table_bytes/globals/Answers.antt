use Rattle.plan_laws.proofs.ListTexts.{global-lines-short}
use Rattle.plan_laws.proofs.table_bytes.globals.Goals as goal

pub returns : goal.returns
returns c = global-lines-short c.args.globals.now c.each_global.ensures
