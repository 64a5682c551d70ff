use Rattle.std.proofs.Common.{arith}
use Rattle.plan_text.specs.PlanText.{names_text}
use Rattle.plan_laws.proofs.Lengths.{lengths-3}
use Rattle.plan_laws.proofs.text_costs.names.Goals as goal

pub returns : goal.returns
unfolding names_text
returns c = rw lengths-3 (omega (arith, c.module_name.ensures, c.function_names.ensures, c.function_hints.ensures))
