use Rattle.std.proofs.Common.{◌≤◌, ◌^◌, ℕ, length, ap, subst}
use Rattle.std.specs.Prelude.{sum_by}
use Rattle.translate.proofs.OnePlan.{same-memories}
use Rattle.translate.proofs.PlansFit.{one-startup, one-context}
use Rattle.translate.proofs.laws.sizes_law.Goals as goal

pub returns-clause-memories : goal.returns-clause-memories
returns-clause-memories c = λ i m. c.memory_plan_exists_laws.ensures.plan _ _ _ _ _

pub returns-clause-tables : goal.returns-clause-tables
returns-clause-tables c = λ i m. c.table_plan_exists_law.ensures _ _ _ _

pub returns-clause-runtime : goal.returns-clause-runtime
returns-clause-runtime c = λ i m p q is_p is_q. (same-memories _ _ _ _ _ p q is_p is_q).runtime

pub returns-clause-context : goal.returns-clause-context
returns-clause-context c = λ o m p q s t is_p is_q is_s is_t. one-context o m p q s t is_p is_q is_s is_t

pub returns-clause-startup : goal.returns-clause-startup
returns-clause-startup c = λ o m p q s t is_p is_q is_s is_t. one-startup o m p q s t is_p is_q is_s is_t

pub returns-clause-much : goal.returns-clause-much
returns-clause-much c = λ i m. (
  λ some plan is. subst (λ (n : ℕ). 2 ^ 32 ≤ n) (ap (sum_by length) (same-memories _ _ _ _ _ some.plan plan some.is_plan is).runtime) some.size,
  λ each. let some = c.memory_plan_exists_laws.ensures.plan _ _ _ _ _ in record { plan = some.0; is_plan = some.1; size = each some.0 some.1 },
)
