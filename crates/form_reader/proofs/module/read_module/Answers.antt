use Rattle.std.proofs.Common.{[], Err, ap, ◌∙◌}
use Rattle.std.proofs.lemmas.Result.{err_from_is_err_and}
use Rattle.form_reader.specs.declared.error.ReadError.TheVariants as errors
use Rattle.form_reader.proofs.Outcomes.{error_is}
use Rattle.form_reader.proofs.module.read_module.Goals as goal

pub read_input-requires : goal.read_input-requires
read_input-requires c = ([], tt)

pub returns-in_err-form-clause-malformed : goal.returns-in_err-form-clause-malformed
returns-in_err-form-clause-malformed c = λ is.
    let p = err_from_is_err_and c.from_residual.result c.from_residual.ensures.1 in
    c.in_err-form.ensures.malformed (ap Err (error_is _ _ _ errors.Malformed p.1 p.2 is))

pub returns-in_err-form-clause-stops_nowhere : goal.returns-in_err-form-clause-stops_nowhere
returns-in_err-form-clause-stops_nowhere c = λ is.
    let p = err_from_is_err_and c.from_residual.result c.from_residual.ensures.1 in
    c.in_err-form.ensures.stops_nowhere (ap Err (error_is _ _ _ errors.Malformed p.1 p.2 is))

pub returns-clause-complete : goal.returns-clause-complete
returns-clause-complete c = λ short m s none. c.in_ok-payloads.ensures ∙ c.in_ok-form.ensures.complete short m s none
