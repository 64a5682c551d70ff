use Rattle.std.proofs.Common.{◌∙◌, refl, sym, ap}
use Rattle.module_types.specs.Builder.{BuilderState, builder_view, starts}
use Rattle.module_types.specs.contracts.builder.ModuleTypesBuilder.{the_view}
use Rattle.module_types.specs.Interner.{built}
use Rattle.module_types.specs.Listed.{MayBeListed}
use Rattle.module_types.proofs.NamedGroups.{startup-listed}
use Rattle.module_types.proofs.Holding.{shows-started}
use Rattle.module_types.proofs.builder.ModuleTypesBuilder.startup_func_type.Goals as goal

pub returns-clause-made : goal.returns-clause-made
returns-clause-made c =
    let old : BuilderState = the_view c.self.inside in
    shows-started old _ c.next_ty-next.result c.in_default.is
    c.in_ok-push_startup.ensures.built c.next_ty-next.ensures refl refl refl refl (sym c.if-self.false)
    ∙ ap (λ k. starts (builder_view k)) c.self.view_is

pub invariant_of-self-2 : goal.invariant_of-self-2
invariant_of-self-2 c =
    let made = startup-listed (built c.self.inside.interner) (c.self.invariant c.if-self.false).1 in
    λ e. (c.in_ok-push_startup.ensures.sound, coe 0 1 (j. MayBeListed (sym c.in_ok-push_startup.ensures.built j)) made)
