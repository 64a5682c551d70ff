use Rattle.std.proofs.Common.{◌≡◌, length, take}
use Rattle.memory_images.specs.Contents.{contents_of}
use Rattle.memory_images.specs.Image.{Filled}
use Rattle.memory_images.proofs.fill.filled.Given as goal

abbrev pub invariant-laid : goal.invariant-laid
invariant-laid l = record {
  len : length l.bytes.items ≡ l.span.size;
  filled : Filled (contents_of (take l.x-index l.laid)) l.span.start l.bytes.items;
}
