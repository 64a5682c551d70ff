use Rattle.std.proofs.Common.{◌∙◌, [], inl, inr, sym, ap, subst}
use Rattle.std.proofs.lemmas.Result.{err_from_is_err_and}
use Rattle.wasm_spec.specs.Module as plain
use Rattle.wasm_spec.specs.Module.{HasFewEntries}
use Rattle.rule_spec.specs.declared.rules.Rule.TheVariants.{L1}
use Rattle.rule_spec.specs.Lists as rule
use Rattle.rule_spec.specs.Lists.{lists_of_module}
use Rattle.rule_spec.specs.Rules.{Keeps}
use Rattle.form_rules.specs.Source.{source_module}
use Rattle.form_rules.specs.Names.{exported_names}
use Rattle.module_types.specs.Builder.{builder_view}
use Rattle.module_environ.specs.Errors.{error_of_check}
use Rattle.interned_types.specs.OnTheWay.{IsOnTheWay}
use Rattle.module_environ.proofs.WayPlaces.{none_else, unchanged, told_poisoned, stops-anyhow}
use Rattle.module_environ.proofs.WholeTranslation.{check-cause}
use Rattle.module_environ.proofs.translating.translate_form.Goals as goal

pub returns-in_err-checked-clause-cause : goal.returns-in_err-checked-clause-cause
returns-in_err-checked-clause-cause c =
    let p = err_from_is_err_and c.from_residual.result c.from_residual.ensures.1 in
    let e = c.checked_lists.ensures in
    rw (p.1, p.2) (check-cause (source_module c.args.source) c.args.types.now.is_poisoned c.checked_lists.result c.in_err-checked.field-0.0 c.in_err-checked.was e.broken e.first)

pub returns-in_err-checked-clause-complete : goal.returns-in_err-checked-clause-complete
returns-in_err-checked-clause-complete c = λ keeps sound.
    let p = err_from_is_err_and c.from_residual.result c.from_residual.ensures.1 in
    rw p.1 (p.2 ∙ ap error_of_check (c.in_err-checked.ensures.complete keeps))

pub returns-in_err-checked-clause-poisoned : goal.returns-in_err-checked-clause-poisoned
returns-in_err-checked-clause-poisoned c = λ keeps was.
    let p = err_from_is_err_and c.from_residual.result c.from_residual.ensures.1 in
    rw (p.1, p.2, c.in_err-checked.ensures.complete keeps) tt

-- ---- a module that keeps the rules has a list of types

pub returns-in_default-clause-complete : goal.returns-in_default-clause-complete
returns-in_default-clause-complete c = λ keeps sound.
    let some = (c.in_default.ensures.well (source_module c.args.source) c.requires.took).1 (keeps L1) in
    absurd cc

pub returns-in_default-clause-poisoned : goal.returns-in_default-clause-poisoned
returns-in_default-clause-poisoned c = λ keeps was.
    let some = (c.in_default.ensures.well (source_module c.args.source) c.requires.took).1 (keeps L1) in
    absurd cc

-- ---- the lists were checked

pub translate_lists-requires-clause-gathered : goal.translate_lists-requires-clause-gathered
translate_lists-requires-clause-gathered c =
    let same = ap source_module (c.without_types-lists.ensures.of_source) in
    record {
      lists = c.without_types-lists.ensures.lists
          ∙ ap (λ (l : rule.Lists). record l { types = [] }) (c.in_ok-checked.ensures.lists ∙ ap lists_of_module (sym same));
      keeps = subst Keeps (sym same) c.in_ok-checked.ensures.kept;
      few = subst HasFewEntries (sym same) c.requires.few;
    }

pub translate_lists-requires-clause-names : goal.translate_lists-requires-clause-names
translate_lists-requires-clause-names c =
    c.in_ok-checked.ensures.names ∙ ap (λ (m : plain.Module). exported_names (lists_of_module m).exports) (ap source_module (sym c.without_types-lists.ensures.of_source))

pub returns-clause-formed : goal.returns-clause-formed
returns-clause-formed c =
    rw (ap source_module (c.without_types-lists.ensures.of_source), c.in-Some.ensures.made) at c.translate_lists.ensures.formed

pub returns-clause-cause : goal.returns-clause-cause
returns-clause-cause c =
    none_else c.translate_lists.result c.args.types.now.is_poisoned (λ is. (c.translate_lists.ensures.poisoned is).0) c.translate_lists.ensures.complete
    (source_module c.args.source)

pub returns-clause-poisoned : goal.returns-clause-poisoned
returns-clause-poisoned c = λ keeps is. told_poisoned c.translate_lists.result (c.translate_lists.ensures.poisoned is).0

pub returns-clause-refused : goal.returns-clause-refused
returns-clause-refused c =
    unchanged c.translate_lists.result c.args.types.now c.translate_lists.new.types (λ is. (c.translate_lists.ensures.poisoned is).1)
    c.translate_lists.ensures.complete

pub returns-clause-stops : goal.returns-clause-stops
returns-clause-stops c =
    let m = source_module c.args.source in
    let same = ap source_module (c.without_types-lists.ensures.of_source) in
    let P : Type 0 = Keeps m × IsOnTheWay m c.args.validator.now (builder_view c.translate_lists.new.types) in
    stops-anyhow c.args.types.now c.translate_lists.new.types P (λ is. (c.translate_lists.ensures.poisoned is).1) (λ was sound.
    elim (c.translate_lists.ensures.stops was sound) [
      | inl unchanged ↦ inl unchanged
      | inr way ↦ inr (c.in_ok-checked.ensures.kept, rw (same, c.in-Some.ensures.made) at way)
    ])
