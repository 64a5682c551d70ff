use Rattle.std.proofs.Common.{◌≡◌, ◌+◌, vec_len, length, map, take}
use Rattle.memory_images.specs.Views.{image_memory, active_segment_of}
use Rattle.memory_images.specs.Layout.{AreLaid}
use Rattle.memory_images.proofs.layout.lay_out.Given as goal

abbrev pub invariant-segments : goal.invariant-segments
invariant-segments l = record {
  count : vec_len l.all ≡ l.imported + length l.defined;
  laid : AreLaid l.imported (map image_memory l.defined) (map active_segment_of (take l.segment-index l.segments)) l.all.items;
}
