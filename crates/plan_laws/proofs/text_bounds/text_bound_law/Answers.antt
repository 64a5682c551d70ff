use Rattle.plan_laws.proofs.TextBounds.{text-is-linear}
use Rattle.plan_laws.proofs.text_bounds.text_bound_law.Goals as goal

pub returns : goal.returns
returns c = λ o bytes planned. text-is-linear o bytes c.args.plan.now c.keeps.ensures planned c.text_law.ensures
