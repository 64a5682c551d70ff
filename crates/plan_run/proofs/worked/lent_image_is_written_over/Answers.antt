use Rattle.plan_run.proofs.Overlap.{overlap-seen}
use Rattle.plan_run.proofs.worked.lent_image_is_written_over.Goals as goal

pub returns : goal.returns
returns c = overlap-seen
