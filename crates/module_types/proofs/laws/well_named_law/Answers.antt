use Rattle.module_types.proofs.NamedLists.{well-named}
use Rattle.module_types.proofs.laws.well_named_law.Goals as goal

pub returns : goal.returns
returns c = well-named
