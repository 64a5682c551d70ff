use Rattle.translate.specs.Options.{options_of}
use Rattle.plan_excess.proofs.Causes.{planned-valid}
use Rattle.plan_excess.proofs.locating.refusal.Goals as goal

pub returns-in-Ok-clause-none : goal.returns-in-Ok-clause-none
returns-in-Ok-clause-none c = λ none e cause.
    let o = options_of c.args.command.now in
    c.causes_law.ensures o c.args.bytes.now e (planned-valid o c.args.bytes.now _ c.in-Ok.ensures.planned) cause
