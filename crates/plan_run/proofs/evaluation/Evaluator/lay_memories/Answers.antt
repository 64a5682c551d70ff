use Rattle.std.proofs.Common.{◌≡◌, ◌∙◌, [], inl, length, sym, arith}
use Rattle.std.proofs.lemmas.List.{length-map}
use Rattle.init_plan.specs.Views.{memory_plan_of}
use Rattle.paged_memory.specs.Memory.{Contents}
use Rattle.plan_run.specs.Evaluation.{offset_position}
use Rattle.plan_run.specs.Limits.{own_memories}
use Rattle.plan_run.specs.Memories.{bytes_in, plan_phase}
use Rattle.plan_run.specs.Segments.{left_pieces}
use Rattle.plan_run.proofs.Given.{each-small, images-within, memory-count, left-below, data-below, memories-hold, pages-lent, shared-after, nil-mapped}
use Rattle.plan_run.proofs.Pieces.{pieces-left}
use Rattle.plan_run.proofs.evaluation.Evaluator.lay_memories.Goals as goal

pub first_memories-requires-clause-small : goal.first_memories-requires-clause-small
first_memories-requires-clause-small c = each-small (own_memories c.args.self.now.translation.now) (λ large. c.requires.small (inl large))

pub first_memories-requires-clause-within : goal.first_memories-requires-clause-within
first_memories-requires-clause-within c = images-within c.args.self.now.translation.now c.requires.finished c.args.way

pub write_pieces-requires : goal.write_pieces-requires
write_pieces-requires c =
    let t = c.args.self.now.translation.now in
    let plan = memory_plan_of t in
    let place = offset_position c.args.self.now in
    let n = length c.in_ok-memories.memories.items in
    let many = memory-count t c.args.way c.args.imported.items c.in_ok-memories.memories.items c.requires.finished.memories.imports c.requires.imports c.in_ok-memories.ensures in
    data-below n (left_pieces c.args.way place plan plan.segments) c.deref.result.now
    (left-below place plan c.args.way n plan.segments (rw many c.requires.finished.memories.segments)) (rw c.deref.ensures.value c.in_ok-pieces.ensures.pieces)

pub returns-clause-laid : goal.returns-clause-laid
returns-clause-laid c =
    let t = c.args.self.now.translation.now in
    let plan = memory_plan_of t in
    let place = offset_position c.args.self.now in
    let imported = c.args.imported.items in
    let memories = c.in_ok-memories.memories.items in
    let many = memory-count t c.args.way imported memories c.requires.finished.memories.imports c.requires.imports c.in_ok-memories.ensures in
    rw (← many) (c.in_ok-trap.ensures.writes (plan_phase c.args.way place (bytes_in imported) plan)
    (pieces-left place plan c.args.way (bytes_in imported) ∙ sym (rw c.deref.ensures.value c.in_ok-pieces.ensures.pieces))
    (memories-hold t c.requires.finished c.args.way place imported memories c.requires.imports c.in_ok-memories.ensures))

pub returns-clause-lent : goal.returns-clause-lent
returns-clause-lent c =
    let t = c.args.self.now.translation.now in
    let plan = memory_plan_of t in
    let place = offset_position c.args.self.now in
    let imported = c.args.imported.items in
    let memories = c.in_ok-memories.memories.items in
    let new = c.write_pieces.new.memories.items in
    let are = pieces-left place plan c.args.way (bytes_in imported) ∙ sym (rw c.deref.ensures.value c.in_ok-pieces.ensures.pieces) in
    let phase = plan_phase c.args.way place (bytes_in imported) plan in
    let hold = memories-hold t c.requires.finished c.args.way place imported memories c.requires.imports c.in_ok-memories.ensures in
    let laid = c.in_ok-trap.ensures.writes phase are hold in
    let count : length new ≡ length memories = omega (arith, laid.count, length-map new (λ (m : Contents). m.bytes)) in
    let still : left_pieces c.args.way place plan plan.segments ≡ [] → new ≡ memories = λ none. grind (arith, nil-mapped) in
    pages-lent t c.requires.finished c.args.way place imported memories c.requires.imports c.in_ok-memories.ensures new count (c.in_ok-trap.ensures.lent phase are hold) still

pub returns-clause-shared : goal.returns-clause-shared
returns-clause-shared c =
    let t = c.args.self.now.translation.now in
    let plan = memory_plan_of t in
    let place = offset_position c.args.self.now in
    let imported = c.args.imported.items in
    let memories = c.in_ok-memories.memories.items in
    let new = c.write_pieces.new.memories.items in
    let are = pieces-left place plan c.args.way (bytes_in imported) ∙ sym (rw c.deref.ensures.value c.in_ok-pieces.ensures.pieces) in
    let phase = plan_phase c.args.way place (bytes_in imported) plan in
    let hold = memories-hold t c.requires.finished c.args.way place imported memories c.requires.imports c.in_ok-memories.ensures in
    let laid = c.in_ok-trap.ensures.writes phase are hold in
    let count : length new ≡ length memories = omega (arith, laid.count, length-map new (λ (m : Contents). m.bytes)) in
    let still : left_pieces c.args.way place plan plan.segments ≡ [] → new ≡ memories = λ none. grind (arith, nil-mapped) in
    shared-after t c.requires.finished c.args.way place imported memories c.requires.imports c.in_ok-memories.ensures new count (c.in_ok-trap.ensures.lent phase are hold) still
