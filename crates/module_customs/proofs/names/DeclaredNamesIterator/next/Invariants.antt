use Rattle.std.proofs.Common.{◌≡◌, length}
use Rattle.module_customs.specs.Names.{names_left}
use Rattle.module_customs.proofs.names.DeclaredNamesIterator.next.Given as goal

abbrev pub invariant-loop-self : goal.invariant-loop-self
invariant-loop-self l = names_left l.self ≡ names_left l.fn.self

abbrev pub decreases-loop-self : goal.decreases-loop-self
decreases-loop-self l = length l.self.names.now
