use Rattle.std.proofs.Common.{◌≡◌, ◌+◌, ◌≤◌, length}
use Rattle.module_types.specs.TypeList.{called_from}
use Rattle.module_types.proofs.iterators.TrampolineTypesIterator.next.Given as goal

abbrev pub invariant-loop-first : goal.invariant-loop-first
invariant-loop-first l = record {
  left : called_from l.self-inside.next l.self-inside.rest.now ≡ l.fn.self;
  few : l.self-inside.next + length l.self-inside.rest.now ≤ 4294967295;
}

abbrev pub decreases-loop-first : goal.decreases-loop-first
decreases-loop-first l = length l.self-inside.rest.now
