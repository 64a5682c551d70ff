use Rattle.std.proofs.Common.{◌≡◌, ◌≤◌, ◌-◌, take, drop}
use Rattle.type_registry.proofs.plan.members.Given as goal

abbrev pub invariant-loop-index : goal.invariant-loop-index
invariant-loop-index l = record {
  low : l.start ≤ l.index;
  copied : l.copies.items ≡ take (l.index - l.start) (drop l.start l.types.types);
}
