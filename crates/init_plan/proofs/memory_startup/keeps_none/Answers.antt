use Rattle.init_plan.proofs.MemoriesKept.{places}
use Rattle.init_plan.proofs.memory_startup.keeps_none.Goals as goal

pub returns : goal.returns
returns c = rw c.in-Processed.is (places c.in-Processed.segments.items c.are_images.result (rw (← c.deref.ensures.value) c.are_images.ensures))
