use Rattle.replay_spec.proofs.Tight.{tight-image}
use Rattle.replay_spec.proofs.One.{one-list}
use Rattle.replay_spec.proofs.image_laws.memory_image_laws.Goals as goal

pub returns-clause-tight : goal.returns-clause-tight
returns-clause-tight c = tight-image

pub returns-clause-one : goal.returns-clause-one
returns-clause-one c = one-list
