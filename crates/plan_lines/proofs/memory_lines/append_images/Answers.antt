use Rattle.plan_lines.proofs.memory_lines.append_images.Goals as goal
use Rattle.std.proofs.Common.{refl}

-- at the start, the lines of all images remain
pub loop-memory-init : goal.loop-memory-init
loop-memory-init c = rw (c.into_iter-memory-iterator.ensures.into_iter_gives, c.iter-memory-items.ensures) refl
