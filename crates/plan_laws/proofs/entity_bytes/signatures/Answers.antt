use Rattle.plan_laws.proofs.ListTexts.{signature-lines-short}
use Rattle.plan_laws.proofs.entity_bytes.signatures.Goals as goal

pub returns : goal.returns
returns c = signature-lines-short c.args.signatures.now c.each_signature.ensures
