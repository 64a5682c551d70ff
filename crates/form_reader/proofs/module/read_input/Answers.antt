use Rattle.std.proofs.Common.{arith}
use Rattle.std.proofs.lemmas.Result.{err_from_is_err_and}
use Rattle.form_reader.specs.declared.error.ReadError.TheVariants as errors
use Rattle.form_reader.proofs.Entries.{few_entries, short_types}
use Rattle.form_reader.proofs.Outcomes.{error_is, read_spells, read_none, read_only, fails_spelled, fails_unsupported, fails_malformed, fails_nowhere}
use Rattle.form_reader.proofs.module.read_input.Goals as goal

pub returns-in_err-parts-clause-complete : goal.returns-in_err-parts-clause-complete
returns-in_err-parts-clause-complete g c = λ short m s none.
    let p = err_from_is_err_and c.from_residual.result c.from_residual.ensures.1 in
    rw (p.1, p.2) (fails_spelled c.args.bytes.now c.in_err-parts.field-0.0 m c.in_err-parts.ensures.reads s none)

pub returns-in_err-parts-clause-unsupported : goal.returns-in_err-parts-clause-unsupported
returns-in_err-parts-clause-unsupported g c = λ w is.
    let p = err_from_is_err_and c.from_residual.result c.from_residual.ensures.1 in
    fails_unsupported c.args.bytes.now c.in_err-parts.field-0.0 w c.in_err-parts.ensures.reads (error_is _ _ _ (errors.Unsupported w) p.1 p.2 is)

pub returns-in_err-parts-clause-malformed : goal.returns-in_err-parts-clause-malformed
returns-in_err-parts-clause-malformed g c = λ is m s.
    let p = err_from_is_err_and c.from_residual.result c.from_residual.ensures.1 in
    fails_malformed c.args.bytes.now c.in_err-parts.field-0.0 m c.in_err-parts.ensures.reads (error_is _ _ _ errors.Malformed p.1 p.2 is) s

pub returns-in_err-parts-clause-stops_nowhere : goal.returns-in_err-parts-clause-stops_nowhere
returns-in_err-parts-clause-stops_nowhere g c = λ is w s.
    let p = err_from_is_err_and c.from_residual.result c.from_residual.ensures.1 in
    fails_nowhere c.args.bytes.now c.in_err-parts.field-0.0 w c.in_err-parts.ensures.reads (error_is _ _ _ errors.Malformed p.1 p.2 is) s

pub returns-clause-read : goal.returns-clause-read
returns-clause-read g c = read_spells c.args.bytes.now _ c.in_ok-parts.ensures.reads

pub returns-clause-no_interface_types : goal.returns-clause-no_interface_types
returns-clause-no_interface_types g c = read_none c.args.bytes.now _ c.in_ok-parts.ensures.reads

pub returns-clause-complete : goal.returns-clause-complete
returns-clause-complete g c = λ short m s none. read_only c.args.bytes.now _ m c.in_ok-parts.ensures.reads s

pub returns-clause-few : goal.returns-clause-few
returns-clause-few g c = few_entries c.args.bytes.now _ (read_spells c.args.bytes.now _ c.in_ok-parts.ensures.reads) (omega arith)

pub returns-clause-short : goal.returns-clause-short
returns-clause-short g c = short_types c.args.bytes.now _ (read_spells c.args.bytes.now _ c.in_ok-parts.ensures.reads) (omega arith)
