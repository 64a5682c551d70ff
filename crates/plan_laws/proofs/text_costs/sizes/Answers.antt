use Rattle.std.proofs.Common.{arith}
use Rattle.plan_text.specs.PlanText.{sizes_text}
use Rattle.plan_laws.proofs.Lengths.{lengths-4}
use Rattle.plan_laws.proofs.text_costs.sizes.Goals as goal

pub returns : goal.returns
unfolding sizes_text
returns c = rw lengths-4 (omega (arith, c.startup.ensures, c.layouts.ensures, c.context.ensures.regions, c.context.ensures.size))
