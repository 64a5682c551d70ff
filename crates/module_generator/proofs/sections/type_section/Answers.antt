use Rattle.module_generator.specs.Generated.{function_type}
use Rattle.module_generator.proofs.Places.{next-place}
use Rattle.module_generator.proofs.sections.type_section.Goals as goal

pub loop-k-preserved : goal.loop-k-preserved
loop-k-preserved c = next-place function_type c.loop-k.k _ _ _ c.loop-k.invariant c.in_ok-push_type.ensures
