use Rattle.std.proofs.Common.{◌≡◌, Result, Err, sym, ap, ◌∙◌}
use Rattle.std.proofs.lemmas.Result.{err_from_is_err_and}
use Rattle.rule_spec.specs.declared.rules.Rule.TheVariants.{L1}
use Rattle.form_reader.specs.Views.{module_of}
use Rattle.form_rules.specs.declared.error.CheckError.{CheckError}
use Rattle.form_rules.specs.declared.error.CheckError.TheVariants.{Invalid}
use Rattle.form_rules.proofs.rules.check.Goals as goal

pub returns-in_err-checked_lists-in-Some-clause-first : goal.returns-in_err-checked_lists-in-Some-clause-first
returns-in_err-checked_lists-in-Some-clause-first c = λ rule is.
    let p = err_from_is_err_and c.from_residual-in_err-checked_lists-in-Some.result c.from_residual-in_err-checked_lists-in-Some.ensures.1 in
    let e : CheckError = c.in_err-checked_lists-in-Some.field-0.0 in
    let same : e ≡ Invalid rule =
    sym p.2 ∙ (let named : (let r : Result (Unit {0}) CheckError = Err p.0 in r) ≡ Err (Invalid rule) = sym p.1 ∙ is in cc) in
    c.in_err-checked_lists-in-Some.ensures.first rule (ap Err same)

-- where the first rule is kept, types are numbered
pub returns-in-None-clause-complete : goal.returns-in-None-clause-complete
returns-in-None-clause-complete c = λ keeps.
    let some = (c.in-None.ensures.well (module_of c.args.form.now) c.in_ok-numbering.ensures).1 (keeps L1) in
    absurd (cc)
