use Rattle.std.proofs.Common.{◌≡◌, ◌++◌, take, drop}
use Rattle.free_numbers.specs.Levels.{lists_of, changed, IsTree, CanChangeFirst}
use Rattle.free_numbers.proofs.levels.change.Given as goal

abbrev pub invariant-loop-level : goal.invariant-loop-level
invariant-loop-level l = record {
  same : changed l.less l.more l.number (lists_of l.fn.levels.items)
      ≡ take l.level (lists_of l.levels.items) ++ changed l.less l.more l.place (drop l.level (lists_of l.levels.items));
  tree : IsTree (drop l.level (lists_of l.levels.items));
  can : CanChangeFirst l.less l.more l.place (drop l.level (lists_of l.levels.items));
}
