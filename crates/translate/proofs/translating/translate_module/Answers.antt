use Rattle.std.proofs.Common.{◌≡◌, true, false, ◌∙◌, Err, refl, ap}
use Rattle.std.proofs.lemmas.Result.{err_from_is_err_and}
use Rattle.translate.specs.Options.{with_options}
use Rattle.translate.proofs.Costs.{costs}
use Rattle.translate.proofs.Counts.{holds_imports, counts_same, few_escape}
use Rattle.translate.proofs.PlansFit.{valid-begins, valid-fits}
use Rattle.translate.proofs.Printable.{is_printable}
use Rattle.translate.proofs.Planning.{same-lists, layout-cause, layout-complete, context-cause, sizes-fit}
use Rattle.translate.proofs.translating.translate_module.Goals as goal

-- ---- there is no translation

pub returns-in_err-translation-clause-cause : goal.returns-in_err-translation-clause-cause
returns-in_err-translation-clause-cause c =
    let o = with_options c.args.tunables.now c.args.collector c.args.ptr c.args.page_size c.args.max_image in
    let p = err_from_is_err_and c.from_residual.result c.from_residual.ensures.1 in
    rw (p.1, p.2) (c.in_err-translation.ensures.cause o refl)

pub returns-in_err-translation-clause-complete : goal.returns-in_err-translation-clause-complete
returns-in_err-translation-clause-complete c = λ valid.
    let p = err_from_is_err_and c.from_residual.result c.from_residual.ensures.1 in
    rw p.1 (p.2 ∙ c.in_err-translation.ensures.complete (valid-begins _ _ valid))

-- ---- there are no layouts

pub layouts_for-requires : goal.layouts_for-requires
layouts_for-requires c = rw c.finish-types.ensures.built c.in_ok-translation.ensures.initialised.few

pub returns-in-Err-clause-cause : goal.returns-in-Err-clause-cause
returns-in-Err-clause-cause c =
    let o = with_options c.args.tunables.now c.args.collector c.args.ptr c.args.page_size c.args.max_image in
    layout-cause o c.in_ok-translation.ensures.initialised c.finish-types.ensures.built
    (λ is. c.layouts_for.ensures.overflow (c.in-Err.is ∙ ap Err is)) c.in-Err.ensures.causes

pub returns-in-Err-clause-complete : goal.returns-in-Err-clause-complete
returns-in-Err-clause-complete c =
    let o = with_options c.args.tunables.now c.args.collector c.args.ptr c.args.page_size c.args.max_image in
    layout-complete o c.in_ok-translation.ensures.initialised c.finish-types.ensures.built
    (λ is. c.layouts_for.ensures.overflow (c.in-Err.is ∙ ap Err is)) c.in-Err.ensures.causes

-- ---- the context is too large

pub new-requires-clause-imports : goal.new-requires-clause-imports
new-requires-clause-imports c = holds_imports c.in_ok-translation.ensures.initialised.initialised

pub returns-clause-cause : goal.returns-clause-cause
returns-clause-cause c =
    let o = with_options c.args.tunables.now c.args.collector c.args.ptr c.args.page_size c.args.max_image in
    rw c.into.ensures (context-cause o c.in_ok-translation.ensures.initialised c.finish-types.ensures.built (c.in-Err-new.ensures.overflow.0 refl))

pub returns-clause-complete : goal.returns-clause-complete
returns-clause-complete c = λ valid.
    let o = with_options c.args.tunables.now c.args.collector c.args.ptr c.args.page_size c.args.max_image in
    absurd (valid-fits o _ (context-cause o c.in_ok-translation.ensures.initialised c.finish-types.ensures.built (c.in-Err-new.ensures.overflow.0 refl)) valid)

-- ---- there is a plan

pub returns-in-Ok-new-clause-planned : goal.returns-in-Ok-new-clause-planned
returns-in-Ok-new-clause-planned c =
    let o = with_options c.args.tunables.now c.args.collector c.args.ptr c.args.page_size c.args.max_image in
    let init = c.in_ok-translation.ensures.initialised in
    record {
      meaning = init.meaning;
      read = init.read;
      keeps = init.keeps;
      planned = record {
        translation = init.initialised;
        types = same-lists o init c.finish-types.ensures.built;
        layouts = c.in-Ok.ensures.layouts;
        offsets = c.in-Ok-new.ensures.ok ∙ counts_same o init.initialised;
        sizes = sizes-fit o init c.finish-types.ensures.built c.in-Ok.ensures.fits (λ large. let e : false ≡ true = c.in-Ok-new.ensures.overflow.1 large in cc);
      };
    }

pub returns-in-Ok-new-clause-costs : goal.returns-in-Ok-new-clause-costs
returns-in-Ok-new-clause-costs c =
    let o = with_options c.args.tunables.now c.args.collector c.args.ptr c.args.page_size c.args.max_image in
    costs o _ _ (returns-in-Ok-new-clause-planned c)

pub returns-in-Ok-new-clause-printable : goal.returns-in-Ok-new-clause-printable
returns-in-Ok-new-clause-printable c = is_printable c.in_ok-translation.ensures.initialised.initialised

pub new-requires-clause-escapes : goal.new-requires-clause-escapes
new-requires-clause-escapes c = let init = c.in_ok-translation.ensures.initialised in few_escape init.initialised init.read
