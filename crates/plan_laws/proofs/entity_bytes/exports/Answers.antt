use Rattle.plan_laws.proofs.ListTexts.{export-lines-short}
use Rattle.plan_laws.proofs.entity_bytes.exports.Goals as goal

pub returns : goal.returns
returns c = export-lines-short c.args.pool.now c.args.exports.now.entries c.each_export.ensures
