use Rattle.module_types.proofs.EqualLists.{declared}
use Rattle.module_types.proofs.laws.declared_law.Goals as goal

pub returns : goal.returns
returns c = declared
