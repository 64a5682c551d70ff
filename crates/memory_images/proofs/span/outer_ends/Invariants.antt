use Rattle.std.proofs.Common.{take}
use Rattle.memory_images.specs.Contents.{contents_of}
use Rattle.memory_images.specs.Image.{Bounds}
use Rattle.memory_images.proofs.span.outer_ends.Given as goal

abbrev pub invariant-laid : goal.invariant-laid
invariant-laid l = Bounds (contents_of (take l.x-index l.laid)) l.ends
