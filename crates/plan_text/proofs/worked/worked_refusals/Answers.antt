use Rattle.std.proofs.Common.{refl}
use Rattle.std.specs.Fmt.{digits}
use Rattle.plan_text.proofs.worked.worked_refusals.Goals as goal

pub returns-clause-memory_rule : goal.returns-clause-memory_rule
unfolding digits
returns-clause-memory_rule c = refl
