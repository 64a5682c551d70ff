use Rattle.std.proofs.Common.{◌≡◌, ℕ, vec_len, Some, []}
use Rattle.std.specs.Prelude.{slice_get}
use Rattle.std.specs.Global.{Vec}
use Rattle.memory_images.specs.declared.placed_segment.PlacedSegment.{PlacedSegment}
use Rattle.memory_images.proofs.layout.empty_lists.Given as goal

abbrev pub invariant-lists : goal.invariant-lists
invariant-lists l = record {
  count : vec_len l.all ≡ l.counter;
  empty : (m : ℕ) (laid : Vec PlacedSegment) → slice_get l.all.items m ≡ Some laid → laid.items ≡ [];
}
