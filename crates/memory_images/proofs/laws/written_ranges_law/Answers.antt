use Rattle.memory_images.proofs.OneList.{one_written}
use Rattle.memory_images.proofs.laws.written_ranges_law.Goals as goal

pub returns : goal.returns
returns c = one_written
