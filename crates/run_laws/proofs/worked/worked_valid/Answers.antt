use Rattle.run_laws.proofs.WorkedValid.{valid}
use Rattle.run_laws.proofs.worked.worked_valid.Goals as goal

pub returns : goal.returns
returns c = valid
