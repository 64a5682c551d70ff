use Rattle.module_types.specs.Interner.{built, FindsMapped}
use Rattle.module_types.proofs.GroupMembers.{Along}
use Rattle.module_types.proofs.interner.Interner.assign_trampolines.Given as goal

abbrev pub invariant-loop-i : goal.invariant-loop-i
invariant-loop-i l = record {
  along : Along (built l.fn.self) (built l.self) l.first l.i;
  found : FindsMapped l.self;
}
