use Rattle.replay_spec.proofs.Constant.{eval-const_value}
use Rattle.replay_spec.proofs.laws.constant_value_law.Goals as goal

pub returns : goal.returns
returns c = eval-const_value
