use Rattle.translate.proofs.Causes.{memory-only}
use Rattle.translate.proofs.laws.causes_law.Goals as goal

pub returns : goal.returns
returns c = λ o bytes e valid cause. memory-only o bytes valid e cause
