use Rattle.init_plan.proofs.Agreeing.{agree_in_all}
use Rattle.init_plan.proofs.laws.agreement_law.Goals as goal

pub returns : goal.returns
returns c = agree_in_all
