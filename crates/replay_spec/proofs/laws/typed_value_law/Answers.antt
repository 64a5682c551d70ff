use Rattle.replay_spec.proofs.Typed.{value-of-class}
use Rattle.replay_spec.proofs.laws.typed_value_law.Goals as goal

pub returns : goal.returns
returns c = value-of-class
