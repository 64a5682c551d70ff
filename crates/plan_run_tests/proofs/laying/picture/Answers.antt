use Rattle.std.proofs.Common.{refl}
use Rattle.std.specs.Int.{IsPowerOfTwo}
use Rattle.plan_run_tests.proofs.laying.picture.Goals as goal

power : IsPowerOfTwo 4096
power = (12, refl)

pub plan_of-requires-clause-page_size : goal.plan_of-requires-clause-page_size
plan_of-requires-clause-page_size c = power

-- a plan can be run
pub laid_of-seen-requires : goal.laid_of-seen-requires
laid_of-seen-requires c = c.translated_is_finished.ensures.planned _ _ _ power c.in_ok-plan.ensures.planned
