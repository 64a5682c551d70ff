use Rattle.std.proofs.Common.{◌≡◌, ◌≢◌, ◌⊎◌, ◌≤◌, ◌<◌, ℕ, length, Some, sym, subst, ap, ◌∙◌, arith}
use Rattle.std.specs.Prelude.{◌^◌}
use Rattle.std.proofs.lemmas.Result.{IfErr-at_err}
use Rattle.command_words.specs.declared.command.Command.{Command}
use Rattle.translate.specs.Options.{options_of}
use Rattle.translate.specs.Valid.{IsValid}
use Rattle.translate.specs.Runs.{IsAnswer}
use Rattle.translate.proofs.WholeInput.{whole_input}
use Rattle.translate.proofs.running.run.Goals as goal

-- no answer reports wrong words
no_usage : (status : ℕ) → IsAnswer status → status ≡ 2 → ⊥
no_usage status answer wrong = grind arith

-- a command that is named is the one that was read
same : {read command : Command} → Some read ≡ Some command → command ≡ read
same e = cc

-- an answer that is no refusal and no failed write
ends_well : (status : ℕ) → IsAnswer status → status ≢ 1 → status ≢ 4 → (status ≡ 0) ⊎ (status ≡ 5)
ends_well status answer no_refusal written = grind arith

-- bytes of a success are short, as 2 ^ 30 of them are refused
short : (status n : ℕ) → status ≡ 0 → (2 ^ 30 ≤ n → (status ≡ 1) ⊎ (status ≡ 4)) → n < 2 ^ 30
short status n success refused = grind (arith, refused)

pub returns-in_default-clause-usage : goal.returns-in_default-clause-usage
returns-in_default-clause-usage g c = (
  λ wrong command names. let e = c.in_default.ensures.complete command names in absurd (cc),
  λ none. ap (λ r. r.status) c.empty_report.ensures,
)

pub returns-in_default-clause-complete : goal.returns-in_default-clause-complete
returns-in_default-clause-complete g c = λ command input names is valid read written.
    let e = c.in_default.ensures.complete command names in absurd (cc)

pub returns-in_default-clause-within : goal.returns-in_default-clause-within
returns-in_default-clause-within g c = λ command names none. let e = c.in_default.ensures.complete command names in absurd (cc)

pub returns-in_default-clause-too_long : goal.returns-in_default-clause-too_long
returns-in_default-clause-too_long g c = λ command names none long. let e = c.in_default.ensures.complete command names in absurd (cc)

pub returns-in-Ok-clause-usage : goal.returns-in-Ok-clause-usage
returns-in-Ok-clause-usage g c = (
  λ wrong command names. no_usage c.answer.result.status c.answer.ensures.statuses wrong,
  λ none. absurd (none c.in-Some.command c.in-Some.ensures.named),
)

pub returns-in-Ok-clause-bytes : goal.returns-in-Ok-clause-bytes
returns-in-Ok-clause-bytes g c = λ command names.
    rw (same (c.in-Some.ensures.complete command names), c.answer.ensures.bytes, c.as_slice-bytes.ensures.value) c.fill_store-outcome.ensures.bytes

pub returns-in-Ok-clause-within : goal.returns-in-Ok-clause-within
returns-in-Ok-clause-within g c = λ command names.
    rw (same (c.in-Some.ensures.complete command names), c.answer.ensures.bytes, c.as_slice-bytes.ensures.value) c.fill_store-outcome.ensures.within

pub returns-in-Ok-clause-too_long : goal.returns-in-Ok-clause-too_long
returns-in-Ok-clause-too_long g c = λ command names none long. c.answer.ensures.too_long (omega (arith, ap length c.answer.ensures.bytes, long))

pub returns-in-Ok-clause-to_the_end : goal.returns-in-Ok-clause-to_the_end
returns-in-Ok-clause-to_the_end g c = λ success untold fresh. record {
  command = c.in-Some.command;
  named = c.in-Some.ensures.named;
  holds = λ none. c.in-Ok.ensures.to_the_end none untold fresh
      (omega (arith, ap length c.as_slice-bytes.ensures.value, short c.answer.result.status (length c.as_slice-bytes.result.now) success c.answer.ensures.too_long));
}

pub returns-in-Ok-clause-made : goal.returns-in-Ok-clause-made
returns-in-Ok-clause-made g c = λ command names. rw (same (c.in-Some.ensures.complete command names)) c.fill_store-outcome.ensures.made

pub returns-in-Ok-clause-complete : goal.returns-in-Ok-clause-complete
returns-in-Ok-clause-complete g c = λ command input names. rw (same (c.in-Some.ensures.complete command names))
    (λ is valid no_read_failed no_write_failed.
    let whole = whole_input c.in-Some.command.generate (g.S.Source.left c.args.source.now) (g.S.Source.left c.fill_store-outcome.new.source)
    c.fill_store-outcome.new.store.items input c.in-Ok.ensures.enough c.fill_store-outcome.ensures.bytes is valid.read.short in
    ends_well c.answer.result.status c.answer.ensures.statuses
    (c.answer.ensures.complete (subst (IsValid (options_of c.in-Some.command)) (whole ∙ sym c.as_slice-bytes.ensures.value) valid))
    (λ failed. no_write_failed (c.answer.ensures.write_failed failed)))

pub returns-in-Ok-clause-never_refused : goal.returns-in-Ok-clause-never_refused
returns-in-Ok-clause-never_refused g c = λ command names.
    rw (same (c.in-Some.ensures.complete command names), c.answer.ensures.bytes) c.answer.ensures.never_refused

pub returns-in-Err-Failed-clause-within : goal.returns-in-Err-Failed-clause-within
returns-in-Err-Failed-clause-within g c = λ command names.
    rw (same (c.in-Some.ensures.complete command names), c.empty_report-in-Err-Failed.ensures, c.as_slice-bytes.ensures.value)
    c.fill_store-outcome.ensures.within

pub returns-in-Err-Failed-clause-too_long : goal.returns-in-Err-Failed-clause-too_long
returns-in-Err-Failed-clause-too_long g c = λ command names. rw (same (c.in-Some.ensures.complete command names)) (λ none long.
    let cut = IfErr-at_err _ c.in-Err-Failed.is c.fill_store-outcome.ensures.stopped none in
    absurd (omega (arith, cut, long, ap (λ r. length r.bytes.now) c.empty_report-in-Err-Failed.ensures, ap length c.as_slice-bytes.ensures.value)))

pub returns-in-Err-Failed-clause-made : goal.returns-in-Err-Failed-clause-made
returns-in-Err-Failed-clause-made g c = λ command names. rw (same (c.in-Some.ensures.complete command names)) c.fill_store-outcome.ensures.made

pub returns-in-Err-OutOfMemory-clause-bytes : goal.returns-in-Err-OutOfMemory-clause-bytes
returns-in-Err-OutOfMemory-clause-bytes g c = λ command names.
    rw (same (c.in-Some.ensures.complete command names), c.empty_report-in-Err-OutOfMemory.ensures, c.as_slice-bytes.ensures.value)
    c.fill_store-outcome.ensures.bytes

pub returns-in-Err-OutOfMemory-clause-within : goal.returns-in-Err-OutOfMemory-clause-within
returns-in-Err-OutOfMemory-clause-within g c = λ command names.
    rw (same (c.in-Some.ensures.complete command names), c.empty_report-in-Err-OutOfMemory.ensures, c.as_slice-bytes.ensures.value)
    c.fill_store-outcome.ensures.within

pub returns-in-Err-OutOfMemory-clause-too_long : goal.returns-in-Err-OutOfMemory-clause-too_long
returns-in-Err-OutOfMemory-clause-too_long g c = λ command names. rw (same (c.in-Some.ensures.complete command names)) (λ none long.
    let cut = IfErr-at_err _ c.in-Err-OutOfMemory.is c.fill_store-outcome.ensures.stopped none in
    absurd (omega (arith, cut, long, ap (λ r. length r.bytes.now) c.empty_report-in-Err-OutOfMemory.ensures, ap length c.as_slice-bytes.ensures.value)))

pub returns-in-Err-OutOfMemory-clause-made : goal.returns-in-Err-OutOfMemory-clause-made
returns-in-Err-OutOfMemory-clause-made g c = λ command names. rw (same (c.in-Some.ensures.complete command names)) c.fill_store-outcome.ensures.made
