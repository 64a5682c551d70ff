use Rattle.std.proofs.Common.{◌≡◌, Err, true, false, sym, ap, ◌∙◌, arith, inr, refl}
use Rattle.std.proofs.lemmas.List.{length-map}
use Rattle.std.proofs.lemmas.Result.{err_from_is_err_and}
use Rattle.wasm_module.specs.declared.startup.ModuleStartup.TheVariants as startup
use Rattle.replay_spec.specs.Startup.{Always}
use Rattle.module_types.specs.Builder.{Builder, builder_view}
use Rattle.module_types.specs.Views.{interned_of}
use Rattle.init_plan.specs.Startup.{types_after}
use Rattle.init_plan.specs.declared.translation.ModuleTranslation.{ModuleTranslation}
use Rattle.module_environ.proofs.WayPlaces.{types-gathered, can-tag, build-memory, at-type, at-tag, at-startup}
use Rattle.module_environ.proofs.WholeTranslation.{new-startup, formed-never, formed-always}
use Rattle.module_environ.proofs.translating.translate_lists.Goals as goal

pub intern_types-requires-clause-of_module : goal.intern_types-requires-clause-of_module
intern_types-requires-clause-of_module c = (_, types-gathered _ c.requires.gathered _ c.requires.numbered)

pub fill_lists-requires-clause-of_module : goal.fill_lists-requires-clause-of_module
fill_lists-requires-clause-of_module c = (_, types-gathered _ c.requires.gathered _ c.requires.numbered)

pub fill_lists-requires-clause-listed : goal.fill_lists-requires-clause-listed
fill_lists-requires-clause-listed c = c.in_ok-indices.ensures.indices _ (types-gathered _ c.requires.gathered _ c.requires.numbered)

pub fill_lists-requires-clause-built : goal.fill_lists-requires-clause-built
fill_lists-requires-clause-built c = c.in_ok-indices.ensures.built _ (types-gathered _ c.requires.gathered _ c.requires.numbered)

-- ---- tags

pub convert_tags-requires-clause-of_module : goal.convert_tags-requires-clause-of_module
convert_tags-requires-clause-of_module c =
    let of = types-gathered _ c.requires.gathered _ c.requires.numbered in
    let e = c.in_ok-indices.ensures in
    (_, can-tag _ c.requires.gathered of _ _ (e.indices _ of) (e.built _ of) _ e.alone _ c.as_slice.ensures.value)

-- ---- startup

pub returns-in_err-require_startup_func-clause-complete : goal.returns-in_err-require_startup_func-clause-complete
returns-in_err-require_startup_func-clause-complete c = λ unpoisoned.
    let p = err_from_is_err_and c.from_residual-in_err-require_startup_func.result c.from_residual-in_err-require_startup_func.ensures.1 in
    let sound : c.convert_tags.new.types.is_poisoned ≡ false =
    ap (λ (b : Builder). b.is_poisoned) c.in_ok-translation.ensures.gains ∙ ap (λ (b : Builder). b.is_poisoned) c.in_ok-indices.ensures.alone in
    rw (p.1, p.2) (build-memory c.in_err-require_startup_func.field-0.0
    (λ is. let no : false ≡ true = sym sound ∙ c.require_startup_func.ensures.poisoned.0 (c.in_err-require_startup_func.was ∙ ap Err is) in cc))

pub returns-in_ok-require_startup_func-clause-formed : goal.returns-in_ok-require_startup_func-clause-formed
returns-in_ok-require_startup_func-clause-formed c =
    let of = types-gathered _ c.requires.gathered _ c.requires.numbered in
    let e = c.in_ok-indices.ensures in
    let t = c.in_ok-translation.ensures in
    let can = can-tag _ c.requires.gathered of _ _ (e.indices _ of) (e.built _ of) _ e.alone _ c.as_slice.ensures.value in
    let f = c.in_ok-fill_lists.ensures in
    formed-always _ _ _ _ c.fill_lists.new.translation _ c.requires.gathered.keeps f.sections f.customs f.strings f.imports f.rest (new-startup _ c.requires.new) _ _ _
    c.set_types.ensures.same c.set_types.ensures.set of.numbered refl can.listed (t.tags _ can) _ _
    (e.alone) t.gains (t.built _ can)
    (omega (arith, length-map c.convert_tags.new.types.list.types interned_of, t.few)) (sym c.if-not-leaves_nothing.true ∙ c.leaves_nothing.ensures) _ _
    c.in_ok-require_startup_func.ensures.ok c.in_ok-require_startup_func.ensures.types

pub returns-else-not-leaves_nothing-clause-formed : goal.returns-else-not-leaves_nothing-clause-formed
returns-else-not-leaves_nothing-clause-formed c =
    let of = types-gathered _ c.requires.gathered _ c.requires.numbered in
    let e = c.in_ok-indices.ensures in
    let t = c.in_ok-translation.ensures in
    let can = can-tag _ c.requires.gathered of _ _ (e.indices _ of) (e.built _ of) _ e.alone _ c.as_slice.ensures.value in
    let f = c.in_ok-fill_lists.ensures in
    formed-never _ _ _ _ c.fill_lists.new.translation _ c.requires.gathered.keeps f.sections f.customs f.strings f.imports f.rest (new-startup _ c.requires.new) _ _ _
    c.set_types.ensures.same c.set_types.ensures.set of.numbered refl can.listed (t.tags _ can) _ _
    (e.alone) t.gains (t.built _ can)
    (omega (arith, length-map c.convert_tags.new.types.list.types interned_of, t.few)) (sym c.if-not-leaves_nothing.false ∙ c.leaves_nothing.ensures) _ refl

-- ---- the state of the builder

pub returns-in_err-indices-clause-stops : goal.returns-in_err-indices-clause-stops
returns-in_err-indices-clause-stops c = λ was sound.
    inr (at-type _ _ _ c.requires.numbered refl _ (c.in_err-indices.ensures.stops sound))

pub returns-in_err-fill_lists-clause-stops : goal.returns-in_err-fill_lists-clause-stops
returns-in_err-fill_lists-clause-stops c = λ was sound.
    inr (at-type _ _ _ c.requires.numbered refl _ (_, c.in_ok-indices.ensures.whole))

pub returns-in_err-translation-clause-stops : goal.returns-in_err-translation-clause-stops
returns-in_err-translation-clause-stops c = λ was sound.
    let of = types-gathered _ c.requires.gathered _ c.requires.numbered in
    let e = c.in_ok-indices.ensures in
    let can = can-tag _ c.requires.gathered of _ _ (e.indices _ of) (e.built _ of) _ e.alone _ c.as_slice.ensures.value in
    inr (at-tag _ _ _ of.numbered refl _ e.whole _ can.named _ (c.in_err-translation.ensures.stops sound _ can))

pub returns-in_ok-require_startup_func-clause-stops : goal.returns-in_ok-require_startup_func-clause-stops
returns-in_ok-require_startup_func-clause-stops c = λ was sound.
    let of = types-gathered _ c.requires.gathered _ c.requires.numbered in
    let e = c.in_ok-indices.ensures in
    let can = can-tag _ c.requires.gathered of _ _ (e.indices _ of) (e.built _ of) _ e.alone _ c.as_slice.ensures.value in
    let none : c.set_types.new.self.module.startup ≡ startup.None = ap (λ (x : ModuleTranslation). x.module.startup) c.set_types.ensures.same
    ∙ c.in_ok-fill_lists.ensures.rest.startup ∙ new-startup _ c.requires.new in
    inr (at-startup _ _ _ of.numbered refl _ e.whole _ can.named _ _ (c.in_ok-translation.ensures.whole _ can)
    (c.in_ok-require_startup_func.ensures.types ∙ ap (λ s. types_after Always s (builder_view c.convert_tags.new.types)) none))

pub returns-else-not-leaves_nothing-clause-stops : goal.returns-else-not-leaves_nothing-clause-stops
returns-else-not-leaves_nothing-clause-stops c = λ was sound.
    let of = types-gathered _ c.requires.gathered _ c.requires.numbered in
    let e = c.in_ok-indices.ensures in
    let can = can-tag _ c.requires.gathered of _ _ (e.indices _ of) (e.built _ of) _ e.alone _ c.as_slice.ensures.value in
    inr (at-tag _ _ _ of.numbered refl _ e.whole _ can.named _ (_, c.in_ok-translation.ensures.whole _ can))
