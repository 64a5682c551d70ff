use Rattle.std.proofs.Common.{ℕ, ◌<◌, ◌≤◌, ◌-◌, ◌^◌, length, get_or}
use Rattle.std.specs.BinaryHeap.{heap_items, IsHeap}
use Rattle.std.specs.Ordering.{nat_cmp}
use Rattle.memory_images.specs.Sweep.{AreWrittenBelow, AreBegun}
use Rattle.memory_images.proofs.Sweeping.{AreKept}
use Rattle.memory_images.proofs.written.written_ranges.Given as goal

abbrev pub invariant-starts : goal.invariant-starts
invariant-starts l = record {
  high : l.at ≤ 2 ^ 64 - 1;
  low : (j : ℕ) → l.i ≤ j → j < length l.starts.items → l.at ≤ (get_or l.starts.items j (0, 0)).0;
  heap : IsHeap nat_cmp (heap_items l.active);
  begun : AreBegun l.segments l.at (heap_items l.active);
  kept : AreKept l.segments l.starts.items l.i l.at (heap_items l.active);
  ranges : AreWrittenBelow l.segments l.at l.ranges.items;
}
