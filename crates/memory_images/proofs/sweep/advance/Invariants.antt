use Rattle.std.proofs.Common.{◌≤◌, length}
use Rattle.std.specs.BinaryHeap.{heap_items, IsHeap}
use Rattle.std.specs.Ordering.{nat_cmp}
use Rattle.memory_images.specs.Sweep.{AreWrittenBelow, AreBegun, Keeps}
use Rattle.memory_images.proofs.sweep.advance.Given as goal

abbrev pub invariant-active : goal.invariant-active
invariant-active l = record {
  low : l.from ≤ l.at;
  high : l.at ≤ l.limit;
  heap : IsHeap nat_cmp (heap_items l.active);
  begun : AreBegun l.segments l.from (heap_items l.active);
  kept : Keeps l.segments l.at (heap_items l.initial.active) (heap_items l.active);
  ranges : AreWrittenBelow l.segments l.at l.ranges.items;
}

abbrev pub decreases-active : goal.decreases-active
decreases-active l = length (heap_items l.active)
