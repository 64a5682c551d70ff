use Rattle.rule_spec.proofs.WorkedKept.{overlapping-kept}
use Rattle.rule_spec.proofs.worked.worked_module.Goals as goal

pub returns : goal.returns
returns c = overlapping-kept
