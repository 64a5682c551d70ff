use Rattle.replay_spec.proofs.AnyNull.{eval-any, const-any}
use Rattle.replay_spec.proofs.laws.any_null_law.Goals as goal

pub returns-clause-value : goal.returns-clause-value
returns-clause-value c = eval-any

pub returns-clause-constant : goal.returns-clause-constant
returns-clause-constant c = const-any
