use Rattle.std.proofs.Common.{ℕ, ◌≤◌, length, ap, subst}
use Rattle.std.specs.Prelude.{sum_by}
use Rattle.replay_spec.proofs.One.{one-runtime}
use Rattle.replay_spec.proofs.Existing.{all-images, a-memory-plan}
use Rattle.replay_spec.proofs.image_laws.memory_plan_exists_laws.Goals as goal

pub returns-clause-images : goal.returns-clause-images
returns-clause-images c = λ page memories active. all-images page active memories

pub returns-clause-plan : goal.returns-clause-plan
returns-clause-plan c = a-memory-plan

pub returns-clause-one_runtime : goal.returns-clause-one_runtime
returns-clause-one_runtime c = one-runtime

pub returns-clause-one_size : goal.returns-clause-one_size
returns-clause-one_size c = λ options imports memories active passive size. (
  λ each. let one = a-memory-plan options imports memories active passive in (one.0, one.1, each one.0 one.1),
  λ some plan is. subst (λ (n : ℕ). size ≤ n) (ap (sum_by length) (one-runtime options imports memories active passive some.0 plan some.1 is)) some.2,
)
