use Rattle.std.proofs.Common.{◌≡◌, ◌∙◌, length, refl, sym, ap, arith}
use Rattle.std.proofs.lemmas.List.{length-map}
use Rattle.type_spec.specs.Interned.{with_exception}
use Rattle.module_types.specs.Builder.{BuilderState, builder_view, excepts}
use Rattle.module_types.specs.contracts.builder.ModuleTypesBuilder.{the_view}
use Rattle.wasm_index.specs.Index.{number_of}
use Rattle.module_types.specs.Views.{interned_of}
use Rattle.module_types.specs.Interner.{built}
use Rattle.module_types.specs.Listed.{MayBeListed}
use Rattle.module_types.proofs.NamedGroups.{exception-listed}
use Rattle.module_types.proofs.Holding.{shows-excepted}
use Rattle.module_types.proofs.builder.ModuleTypesBuilder.define_exception_type_for_tag.Goals as goal

pub returns-clause-defined : goal.returns-clause-defined
returns-clause-defined c =
    let old : BuilderState = the_view c.self.inside in
    shows-excepted old _ c.as_u32-key.result c.next_ty-next.result c.in_default.ensures
    (c.in_ok-push_exception.ensures.built ∙ ap (with_exception (builder_view old).built) (sym c.as_u32-key.ensures)) c.next_ty-next.ensures c.in_ok-note.ensures refl refl refl (sym c.if-self.false)
    ∙ (λ j. excepts (builder_view (c.self.view_is j)) (c.as_u32-key.ensures j))

pub invariant_of-self-2 : goal.invariant_of-self-2
invariant_of-self-2 c =
    let i = c.self.inside.interner in
    let types : length (built i).types ≡ length i.list.types = length-map i.list.types interned_of in
    let seen = ap (λ (b : BuilderState). length b.list.types) c.self.view_is in
    let made = exception-listed (built i) (number_of c.args.for_func_ty) (omega (arith, c.requires.in_range, types, seen)) (c.self.invariant c.if-self.false).1 in
    λ e. (c.in_ok-push_exception.ensures.sound, coe 0 1 (j. MayBeListed (sym c.in_ok-push_exception.ensures.built j)) made)
