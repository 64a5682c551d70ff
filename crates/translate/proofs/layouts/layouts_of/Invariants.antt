use Rattle.translate.proofs.LayoutsInTurn.{AreLaidOut}
use Rattle.translate.proofs.layouts.layouts_of.Given as goal

abbrev pub invariant-loop-ty : goal.invariant-loop-ty
invariant-loop-ty g l = AreLaidOut g.L.GcTypeLayouts.header_size l.types.types l.layouts l.ty-iterator
