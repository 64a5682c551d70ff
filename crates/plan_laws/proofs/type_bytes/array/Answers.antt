use Rattle.plan_laws.proofs.TypeTexts.{array-short}
use Rattle.plan_laws.proofs.type_bytes.array.Goals as goal

pub returns : goal.returns
returns c = array-short c.args.ty.now c.field.ensures
