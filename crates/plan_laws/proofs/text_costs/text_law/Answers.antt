use Rattle.std.proofs.Common.{arith}
use Rattle.plan_text.specs.PlanText.{text_of_plan}
use Rattle.plan_laws.proofs.Lengths.{lengths-6}
use Rattle.plan_laws.proofs.text_costs.text_law.Goals as goal

pub returns : goal.returns
unfolding text_of_plan
returns c = rw lengths-6 (omega (arith, c.type_list.ensures, c.entities.ensures, c.names.ensures, c.tables.ensures, c.memories.ensures, c.sizes.ensures))
