use Rattle.replay_spec.proofs.WorkedPlan.{one-image}
use Rattle.replay_spec.proofs.worked_images.worked_memory_plan.Goals as goal

pub returns : goal.returns
returns c = one-image
