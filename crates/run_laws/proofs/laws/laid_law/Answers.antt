use Rattle.run_laws.proofs.LaidWhole.{laid-of-module}
use Rattle.run_laws.proofs.laws.laid_law.Goals as goal

pub returns : goal.returns
returns c = λ o bytes plan is w imports laid are. laid-of-module o bytes plan is w imports laid (c.agreement_law.ensures plan.translation plan.types w imports laid) are
