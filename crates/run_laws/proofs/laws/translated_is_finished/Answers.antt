use Rattle.run_laws.proofs.Translated.{translated-finished}
use Rattle.run_laws.proofs.PlannedWhole.{planned-finished}
use Rattle.module_environ.proofs.HoldsLists.{holds_memories}
use Rattle.run_laws.proofs.laws.translated_is_finished.Goals as goal

pub returns-clause-translated : goal.returns-clause-translated
returns-clause-translated c = translated-finished

pub returns-clause-planned : goal.returns-clause-planned
returns-clause-planned c = λ o bytes plan page is.
    let i = is.planned.translation in
    let before = i.rest.before in
    let sections = i.rest.translation.sections in
    planned-finished o.init bytes is.meaning plan.translation page is.read is.keeps i
    (c.held_agreement_laws.ensures.memories is.meaning before (holds_memories is.meaning before sections.entities sections.counts sections.data_segments))
