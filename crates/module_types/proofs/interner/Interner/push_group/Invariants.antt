use Rattle.module_types.specs.Conversion.{interned_members}
use Rattle.module_types.specs.Interner.{built, holding}
use Rattle.module_types.proofs.Steps.{Grown}
use Rattle.module_types.proofs.interner.Interner.push_group.Given as goal

abbrev pub invariant-loop-member : goal.invariant-loop-member
invariant-loop-member l = Grown l.fn.self l.self (interned_members l.types (holding (built l.fn.self) l.ids) l.fn.id.0) l.member-index
