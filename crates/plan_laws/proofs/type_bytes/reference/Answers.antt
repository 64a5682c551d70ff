use Rattle.plan_laws.proofs.TypeTexts.{ref-short}
use Rattle.plan_laws.proofs.type_bytes.reference.Goals as goal

pub returns : goal.returns
returns c = ref-short c.args.ty.now.nullable c.args.ty.now.heap_type c.heap.ensures
