use Rattle.replay_spec.proofs.WorkedImages.{is_static, not_static, overlap-image, leading-image, no-image}
use Rattle.replay_spec.proofs.worked_images.worked_memory_images.Goals as goal

pub returns-clause-rule : goal.returns-clause-rule
returns-clause-rule c = is_static

pub returns-clause-past_the_end : goal.returns-clause-past_the_end
returns-clause-past_the_end c = not_static

pub returns-clause-overlap : goal.returns-clause-overlap
returns-clause-overlap c = overlap-image

pub returns-clause-offset_moves : goal.returns-clause-offset_moves
returns-clause-offset_moves c = leading-image

pub returns-clause-zeros : goal.returns-clause-zeros
returns-clause-zeros c = no-image
