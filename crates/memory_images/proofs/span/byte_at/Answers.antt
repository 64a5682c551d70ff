use Rattle.std.proofs.Common.{sym, ◌∙◌}
use Rattle.memory_images.proofs.Filling.{contents_more}
use Rattle.memory_images.proofs.span.byte_at.Goals as goal

pub laid-preserved : goal.laid-preserved
laid-preserved c = (rw c.laid.invariant at c.byte_over-byte.ensures) ∙ sym (contents_more c.args.laid.now c.laid.x-index c.args.place _ c.laid-test.true)
