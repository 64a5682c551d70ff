use Rattle.plan_laws.proofs.Refusals.{one-short-cause, one-refusal, no-cause}
use Rattle.plan_laws.proofs.laws.refusals_law.Goals as goal

pub returns-clause-one : goal.returns-clause-one
returns-clause-one c = λ o bytes e f short x y not_e not_f. one-short-cause o bytes short e f x y not_e not_f

pub returns-clause-refused : goal.returns-clause-refused
returns-clause-refused c = one-refusal

pub returns-clause-none : goal.returns-clause-none
returns-clause-none c = no-cause c.causes_law.ensures
