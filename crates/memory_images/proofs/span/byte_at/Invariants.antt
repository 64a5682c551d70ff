use Rattle.std.proofs.Common.{◌≡◌, take}
use Rattle.memory_images.specs.Contents.{contents_of}
use Rattle.memory_images.proofs.span.byte_at.Given as goal

abbrev pub invariant-laid : goal.invariant-laid
invariant-laid l = l.byte ≡ contents_of (take l.x-index l.laid) l.place
