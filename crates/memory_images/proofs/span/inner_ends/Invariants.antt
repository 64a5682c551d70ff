use Rattle.memory_images.specs.Contents.{contents_of}
use Rattle.memory_images.specs.Image.{EndsOf}
use Rattle.memory_images.proofs.Ends.{LiesIn}
use Rattle.memory_images.proofs.span.inner_ends.Given as goal

abbrev pub invariant-ranges-2 : goal.invariant-ranges-2
invariant-ranges-2 l = EndsOf (contents_of l.laid) (LiesIn l.ranges l.range-index) l.ends
