use Rattle.std.proofs.Common.{ℕ, length}
use Rattle.replay_spec.specs.Images.{ImageOf}
use Rattle.memory_images.specs.Contents.{contents_at}
use Rattle.memory_images.specs.Image.{SpanOf}
use Rattle.memory_images.specs.Images.{AreListed, images_of}
use Rattle.memory_images.proofs.image.make_all.Given as goal

abbrev pub invariant-making : goal.invariant-making
invariant-making l = (page : ℕ) → AreListed (λ m. SpanOf page (contents_at l.memories m)) (length l.memories) l.spans
    → AreListed (λ m. ImageOf page (contents_at l.memories m)) l.m (images_of l.images.items)
