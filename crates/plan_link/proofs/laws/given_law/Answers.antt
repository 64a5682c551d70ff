use Rattle.plan_link.proofs.Given.{given-resolved}
use Rattle.plan_link.proofs.laws.given_law.Goals as goal

pub returns : goal.returns
returns c = given-resolved
