use Rattle.std.proofs.Common.{◌≡◌, ◌<◌, ◌++◌, ◌∷◌, [], length}
use Rattle.free_numbers.specs.Counts.{total}
use Rattle.free_numbers.specs.Levels.{lists_of, counts_of, IsChain}
use Rattle.free_numbers.proofs.levels.levels_of.Given as goal

abbrev pub invariant-loop-alloc : goal.invariant-loop-alloc
invariant-loop-alloc l = record {
  chain : IsChain (lists_of l.levels.items ++ l.level.items ∷ []);
  counts : counts_of (lists_of l.levels.items ++ l.level.items ∷ []) ≡ l.initial.level.items;
  few : total l.level.items < 4294967296;
}

abbrev pub decreases-loop-alloc : goal.decreases-loop-alloc
decreases-loop-alloc l = length l.level.items
