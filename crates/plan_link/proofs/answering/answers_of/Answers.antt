use Rattle.std.proofs.Common.{◌∙◌, arith}
use Rattle.import_match.specs.Linking.{wanted}
use Rattle.plan_link.specs.Answers.{import_answers}
use Rattle.plan_link.proofs.Collected.{one-more, all-of, answers-long}
use Rattle.plan_link.proofs.answering.answers_of.Goals as goal

pub loop-place-preserved : goal.loop-place-preserved
loop-place-preserved c =
    let all = import_answers c.args.linker.now (wanted c.args.registry.now c.args.key c.args.«module».now) in
    c.in_ok-push.ensures.items ∙ one-more c.loop-place.answers.items all c.loop-place.place c.in_ok-answer_at.field-0 c.loop-place.invariant c.in_ok-answer_at.ensures

pub returns : goal.returns
returns c =
    let all = import_answers c.args.linker.now (wanted c.args.registry.now c.args.key c.args.«module».now) in
    let long = answers-long c.args.linker.now c.args.registry.now c.args.key c.args.«module».now c.requires.can in
    all-of c.loop-place.answers.items all c.loop-place.place c.loop-place.invariant
    (omega (arith, long, c.len-count.ensures, c.loop-place.auto.place-end, c.loop-place-test.false))
