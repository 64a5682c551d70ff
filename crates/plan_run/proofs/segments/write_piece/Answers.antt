use Rattle.std.proofs.Common.{◌∙◌, length, ap, sym, refl, arith}
use Rattle.std.proofs.lemmas.Option.{slice_get_read, same_Some}
use Rattle.plan_run.specs.Memories.{data_piece}
use Rattle.plan_run.proofs.LentPages.{but-set}
use Rattle.plan_run.proofs.PieceSteps.{writes-true}
use Rattle.plan_run.proofs.segments.write_piece.Goals as goal

pub returns-clause-writes : goal.returns-clause-writes
returns-clause-writes c =
    let memories = c.args.memories.now.items in
    let piece = c.args.piece.now in
    let one = slice_get_read memories (length memories) piece.memory c.index-memory.result.now refl c.requires c.index-memory.ensures in
    let two = slice_get_read memories (length memories) piece.memory c.index_mut.result.now refl c.requires c.index_mut.ensures.value in
    let same = ap (λ m. length m.bytes) (same_Some c.index-memory.result.now c.index_mut.result.now (sym one ∙ two)) in
    let size = c.len.ensures in
    let fits = c.is_within.ensures.0 c.if-not-is_within.false in
    writes-true (λ m. m.bytes) memories piece.memory c.index_mut.result.now two (data_piece piece) refl c.write.new.self (omega arith) c.in_ok-write.ensures.ok

pub returns-clause-lent : goal.returns-clause-lent
returns-clause-lent c =
    let memories = c.args.memories.now.items in
    let piece = c.args.piece.now in
    let memory = c.index_mut.result.now in
    let two = slice_get_read memories (length memories) piece.memory memory refl c.requires c.index_mut.ensures.value in
    but-set memories (data_piece piece) memory c.write.new.self two c.write.ensures.page c.in_ok-write.ensures.lent
