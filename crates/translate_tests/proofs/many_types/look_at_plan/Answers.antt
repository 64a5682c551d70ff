use Rattle.std.proofs.Common.{refl}
use Rattle.translate_tests.proofs.many_types.look_at_plan.Goals as goal

pub plan_of-requires-clause-page_size : goal.plan_of-requires-clause-page_size
plan_of-requires-clause-page_size c = (12, refl)
