use Rattle.std.proofs.Common.{◌≡◌, take}
use Rattle.import_match.specs.Linking.{wanted}
use Rattle.plan_link.specs.Answers.{import_answers}
use Rattle.plan_link.proofs.answering.answers_of.Given as goal

abbrev pub invariant-loop-place : goal.invariant-loop-place
invariant-loop-place l = l.answers.items ≡ take l.place (import_answers l.linker (wanted l.registry l.key l.«module»))
