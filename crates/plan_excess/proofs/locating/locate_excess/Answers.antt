use Rattle.std.proofs.Common.{inl, inr}
use Rattle.translate.specs.Options.{options_of}
use Rattle.plan_excess.proofs.Causes.{other-refused, none-refused}
use Rattle.plan_excess.proofs.locating.locate_excess.Goals as goal

pub returns-in_default-clause-none : goal.returns-in_default-clause-none
returns-in_default-clause-none c = λ none.
    let o = options_of c.args.command.now in
    let never = none-refused o c.args.bytes.now (c.refusal.ensures.none c.in_default.is) in
    (λ cause. never (inl cause), λ cause. never (inr cause))

pub returns-in_default-error-clause-none : goal.returns-in_default-error-clause-none
returns-in_default-error-clause-none c = λ none.
    let o = options_of c.args.command.now in
    let long = rw c.in-Some.is at c.refusal.ensures.too_long in
    let cause = rw c.in-Some.is at c.refusal.ensures.cause in
    let never = other-refused o c.args.bytes.now c.in-Some.error long cause c.in_default-error.not-TooLarge c.in_default-error.not-OffsetOverflow
    c.in_default-error.not-OutOfMemory in
    (λ cause. never (inl cause), λ cause. never (inr cause))

pub excess_of_data-requires-clause-cause : goal.excess_of_data-requires-clause-cause
excess_of_data-requires-clause-cause c = rw (c.in-Some.is, c.in-TooLarge.is) at c.refusal.ensures.cause
