use Rattle.std.proofs.Common.{◌≡◌, ℕ, ◌^◌, ◌≤◌, List, length, Err, refl, ap}
use Rattle.std.proofs.lemmas.Result.{err_from_is_err_and}
use Rattle.wasm_spec.specs.declared.operators.What.{What}
use Rattle.wasm_spec.specs.Grammar.{Stops}
use Rattle.form_reader.specs.declared.error.ReadError.{ReadError}
use Rattle.form_reader.specs.declared.error.ReadError.TheVariants as refusal
use Rattle.segment_tables.specs.Causes.{IsMalformed, HasReadCause}
use Rattle.segment_tables.proofs.tables.module_segments.Goals as goal

cause_is : (bytes : List ℕ) (e : ReadError) → (e ≡ refusal.Malformed → IsMalformed bytes) → ((what : What) → e ≡ refusal.Unsupported what → Stops bytes what)
    → (e ≡ refusal.TooLarge → 2 ^ 30 ≤ length bytes) → HasReadCause bytes e
cause_is bytes refusal.Malformed malformed stops large = malformed refl
cause_is bytes (refusal.Unsupported what) malformed stops large = stops what refl
cause_is bytes refusal.TooLarge malformed stops large = large refl
cause_is bytes refusal.OutOfMemory malformed stops large = tt

pub returns-in_err-form-clause-cause : goal.returns-in_err-form-clause-cause
returns-in_err-form-clause-cause c =
    let p = err_from_is_err_and c.from_residual.result c.from_residual.ensures.1 in
    let e = c.in_err-form.ensures in
    rw (p.1, p.2) (cause_is c.args.bytes.now c.in_err-form.field-0.0
    (λ is. (e.malformed (ap Err is), e.stops_nowhere (ap Err is)))
    (λ what is. e.unsupported what (ap Err is)) (λ is. e.too_large.0 (ap Err is)))

pub returns-in_err-form-clause-complete : goal.returns-in_err-form-clause-complete
returns-in_err-form-clause-complete c = λ m read.
    let p = err_from_is_err_and c.from_residual.result c.from_residual.ensures.1 in
    rw (p.1, p.2) (c.in_err-form.ensures.complete read.short m read.spelled read.no_interface_types)
