use Rattle.module_types.proofs.SameIndex.{same-index}
use Rattle.module_types.proofs.laws.same_type_law.Goals as goal

pub returns : goal.returns
returns c = same-index
