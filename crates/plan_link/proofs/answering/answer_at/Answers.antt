use Rattle.import_match.specs.Linking.{wanted}
use Rattle.plan_link.proofs.Given.{comes, number-given, refusal-told}
use Rattle.plan_link.proofs.Outcomes.{if-ok}
use Rattle.plan_link.proofs.answering.answer_at.Goals as goal

pub told_by-requires : goal.told_by-requires
told_by-requires c =
    comes c.args.linker.now (wanted c.args.registry.now c.args.key c.args.«module».now) c.args.place c.in-Err.refusal
    (c.in-Err.ensures.answer c.requires.held)

pub returns-in-Ok : goal.returns-in-Ok
returns-in-Ok c =
    number-given c.args.linker.now (wanted c.args.registry.now c.args.key c.args.«module».now) c.args.place c.in-Ok.number
    (c.in-Ok.ensures.answer c.requires.held)

pub returns-in-Err : goal.returns-in-Err
returns-in-Err c =
    let wants = wanted c.args.registry.now c.args.key c.args.«module».now in
    if-ok c.told_by.result _ _ (λ answer is. refusal-told c.args.linker.now wants c.args.place c.in-Err.refusal answer
    (c.in-Err.ensures.answer c.requires.held) is) c.told_by.ensures
