use Rattle.instance_laws.proofs.OfPlan.{instantiates-alike}
use Rattle.instance_laws.proofs.laws.instance_law.Goals as goal

pub returns : goal.returns
returns c = instantiates-alike
