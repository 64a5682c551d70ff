use Rattle.memory_images.specs.Contents.{contents_at}
use Rattle.memory_images.specs.Image.{SpanOf}
use Rattle.memory_images.specs.Images.{AreListed}
use Rattle.memory_images.proofs.image.spans_of.Given as goal

abbrev pub invariant-memories : goal.invariant-memories
invariant-memories l = AreListed (λ m. SpanOf l.page (contents_at l.memories m)) l.laid-index l.spans.items
