use Rattle.std.proofs.Common.{sym, subst}
use Rattle.module_tests.specs.FirstGroups.{HoldsFirst}
use Rattle.module_tests.proofs.FirstGroups.{none-first}
use Rattle.module_tests.proofs.groups.groups_are_interned_once.Goals as goal

pub intern_both-requires : goal.intern_both-requires
intern_both-requires g c =
    subst (λ b. HoldsFirst c.in_ok-types.types b 0) (sym c.new-builder.ensures) (none-first c.in_ok-types.types _ c.id.ensures.sound)
