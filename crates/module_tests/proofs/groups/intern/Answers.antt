use Rattle.std.proofs.Common.{◌+◌, sym, subst}
use Rattle.module_types.specs.Builder.{builder_view}
use Rattle.module_tests.specs.FirstGroups.{HoldsFirst}
use Rattle.module_tests.proofs.FirstGroups.{on-ok, next-holds, next-named, next-room, next-later}
use Rattle.module_tests.proofs.groups.intern.Goals as goal

pub intern_rec_group-requires-clause-holds : goal.intern_rec_group-requires-clause-holds
intern_rec_group-requires-clause-holds c = next-holds c.args.types.now (builder_view c.args.builder.now) c.args.id.0 c.requires.next

pub intern_rec_group-requires-clause-named : goal.intern_rec_group-requires-clause-named
intern_rec_group-requires-clause-named c = next-named c.args.types.now (builder_view c.args.builder.now) c.args.id.0 c.requires.next

pub intern_rec_group-requires-clause-room : goal.intern_rec_group-requires-clause-room
intern_rec_group-requires-clause-room c = λ sound. next-room c.args.types.now (builder_view c.args.builder.now) c.args.id.0 c.requires.next c.requires.few

pub returns : goal.returns
returns c =
    on-ok c.intern_rec_group.result
    (λ is. subst (λ b. HoldsFirst c.args.types.now b (c.args.id.0 + 1)) (sym is) (next-later c.args.types.now (builder_view c.args.builder.now) c.args.id.0 c.requires.next))
    c.intern_rec_group.ensures.interned
