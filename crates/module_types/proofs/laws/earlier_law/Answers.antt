use Rattle.module_types.proofs.NamingEarlier.{keeps-earlier}
use Rattle.module_types.proofs.laws.earlier_law.Goals as goal

pub returns : goal.returns
returns c = keeps-earlier
