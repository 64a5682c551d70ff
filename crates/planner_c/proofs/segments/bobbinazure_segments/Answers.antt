use Rattle.std.proofs.Common.{◌≡◌, ◌∙◌, sym}
use Rattle.form_reader.specs.declared.error.ReadError.TheVariants as refusal
use Rattle.planner_c.proofs.segments.bobbinazure_segments.Goals as goal

pub returns-in-Err-Malformed-clause-complete : goal.returns-in-Err-Malformed-clause-complete
returns-in-Err-Malformed-clause-complete c = λ m read is.
    let no : refusal.Malformed ≡ refusal.OutOfMemory = sym c.in-Err-Malformed.field-0-is ∙ c.in-Err-Malformed.ensures.complete m read in
    absurd cc

pub returns-in-Err-Unsupported-clause-complete : goal.returns-in-Err-Unsupported-clause-complete
returns-in-Err-Unsupported-clause-complete c = λ m read is.
    let no : refusal.Unsupported c.in-Err-Unsupported.field-0-0 ≡ refusal.OutOfMemory
    = sym c.in-Err-Unsupported.field-0-is ∙ c.in-Err-Unsupported.ensures.complete m read in
    absurd cc
