use Rattle.plan_laws.proofs.TypeTexts.{field-short}
use Rattle.plan_laws.proofs.type_bytes.field.Goals as goal

pub returns : goal.returns
returns c = field-short c.args.ty.now.mutable c.args.ty.now.element_type c.storage.ensures
