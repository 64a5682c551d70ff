use Rattle.module_types.proofs.EqualLists.{equal-lists}
use Rattle.module_types.proofs.laws.equal_lists_law.Goals as goal

pub returns : goal.returns
returns c = equal-lists
