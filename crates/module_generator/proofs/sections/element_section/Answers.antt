use Rattle.std.proofs.Common.{[], ◌∷◌}
use Rattle.module_generator.proofs.Places.{next-place}
use Rattle.module_generator.proofs.sections.element_section.Goals as goal

pub loop-preserved : goal.loop-preserved
loop-preserved c = next-place (λ k. 0 ∷ []) c.loop.counter _ _ _ c.loop.invariant c.in_ok-push.ensures.items
