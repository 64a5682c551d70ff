use Rattle.std.proofs.Common.{◌≡◌, ◌≤◌, ◌++◌, replicate, drop}
use Rattle.form_rules.proofs.stack.pop_many.Given as goal

-- the later values are popped
abbrev pub invariant-loop-left : goal.invariant-loop-left
invariant-loop-left l = record {
  within : l.left ≤ l.fn.count;
  taken : l.initial.stack.items ≡ l.stack.items ++ drop l.left (replicate l.fn.count l.fn.class);
}

abbrev pub decreases-loop-left : goal.decreases-loop-left
decreases-loop-left l = l.left
