use Rattle.translate.proofs.Costs.{costs}
use Rattle.run_laws.proofs.laws.costs_law.Goals as goal

pub returns : goal.returns
returns c = costs
