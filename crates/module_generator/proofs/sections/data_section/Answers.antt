use Rattle.module_generator.specs.Generated.{segment}
use Rattle.module_generator.proofs.Places.{next-place}
use Rattle.module_generator.proofs.sections.data_section.Goals as goal

pub loop-k-preserved : goal.loop-k-preserved
loop-k-preserved c = next-place segment c.loop-k.k _ _ _ c.loop-k.invariant c.in_ok-push_segment.ensures
