use Rattle.std.proofs.Common.{refl}
use Rattle.plan_link.proofs.Outcomes.{if-ok}
use Rattle.link_tests.proofs.modules.plan_of.Goals as goal

pub plan_of-requires-clause-page_size : goal.plan_of-requires-clause-page_size
plan_of-requires-clause-page_size c = (12, refl)

pub returns-clause-some : goal.returns-clause-some
returns-clause-some c = if-ok c.plan_of.result _ _ (λ plan is. record { options = _; bytes = c.args.bytes.now; planned = is }) c.plan_of.ensures.planned
