use Rattle.std.proofs.Common.{◌≡◌, ◌∙◌, ℕ, List, [], length, map, drop, ap, subst, refl, arith}
use Rattle.std.proofs.lemmas.List.{length-map, drop_all}
use Rattle.replay_spec.specs.Phases.{Piece}
use Rattle.paged_memory.specs.Memory.{Contents}
use Rattle.plan_run.specs.declared.segments.DataPiece.{DataPiece}
use Rattle.plan_run.specs.Memories.{bytes_in, data_piece}
use Rattle.plan_run.proofs.LentPages.{IsLending, lending-starts, lending-ends, next-lends, next-stays}
use Rattle.plan_run.proofs.PieceSteps.{item-written, item-traps, item-fits, item-passes}
use Rattle.plan_run.proofs.Writing.{IsWriting}
use Rattle.plan_run.proofs.segments.write_pieces.Goals as goal

abbrev none : DataPiece
none = record { memory = 0; place = 0; bytes = record { ref_ptr = (0, 0); now = [] } }

pub returns-then-not-branch-clause-writes : goal.returns-then-not-branch-clause-writes
returns-then-not-branch-clause-writes c = λ phase is hold.
    let long = length-map c.loop-i.memories.items (λ m. m.bytes) in
    let within = c.requires c.loop-i.i none c.loop-i-test.true in
    item-traps data_piece c.args.pieces.now c.loop-i.i none c.loop-i-test.true refl (bytes_in c.write_piece.new.memories.items) (c.loop-i.invariant.writing phase is hold)
    (omega arith) (length c.args.memories.now.items) (omega arith) (rw c.if-not-branch.true at c.in_ok-write_piece.ensures.writes)

pub returns-then-not-branch-clause-lent : goal.returns-then-not-branch-clause-lent
returns-then-not-branch-clause-lent c = λ phase is hold.
    let long = length-map c.loop-i.memories.items (λ m. m.bytes) in
    let within = c.requires c.loop-i.i none c.loop-i-test.true in
    next-stays phase data_piece c.args.pieces.now c.loop-i.i none c.loop-i-test.true c.args.memories.now.items c.loop-i.memories.items c.write_piece.new.memories.items
    (c.loop-i.invariant.lending phase is hold)
    (item-passes data_piece c.args.pieces.now c.loop-i.i none c.loop-i-test.true refl (bytes_in c.write_piece.new.memories.items) (c.loop-i.invariant.writing phase is hold)
    (omega arith) (rw c.if-not-branch.true at c.in_ok-write_piece.ensures.writes))
    (rw c.if-not-branch.true at c.in_ok-write_piece.ensures.lent)

pub loop-i-init : goal.loop-i-init
loop-i-init c = record {
  count = refl;
  writing = λ phase is hold. subst (λ (l : List (Piece ℕ)). IsWriting phase l (bytes_in c.args.memories.now.items)) is
      (record { item = phase.base; hold = hold; content = λ i place. refl; trap = refl });
  lending = λ phase is hold. subst (λ (l : List (Piece ℕ)). IsLending phase l c.args.memories.now.items c.args.memories.now.items) is
      (lending-starts phase c.args.memories.now.items);
  still = λ none. refl;
}

pub returns-clause-lent : goal.returns-clause-lent
returns-clause-lent c = λ phase is hold.
    let none : drop c.loop-i.i c.args.pieces.now ≡ [] = drop_all c.loop-i.i c.args.pieces.now (omega (arith, c.loop-i-test.false)) in
    lending-ends phase c.args.memories.now.items c.loop-i.memories.items (rw none at (c.loop-i.invariant.lending phase is hold))

pub loop-i-preserved : goal.loop-i-preserved
loop-i-preserved c =
    let long = length-map c.loop-i.memories.items (λ m. m.bytes) in
    let within = c.requires c.loop-i.i none c.loop-i-test.true in
    record {
      count = (rw c.if-not-branch.false at c.in_ok-write_piece.ensures.lent).count ∙ c.loop-i.invariant.count;
      writing = λ phase is hold. item-written data_piece c.args.pieces.now c.loop-i.i none c.loop-i-test.true refl (bytes_in c.write_piece.new.memories.items)
          (c.loop-i.invariant.writing phase is hold) (omega arith) (rw c.if-not-branch.false at c.in_ok-write_piece.ensures.writes);
      lending = λ phase is hold. next-lends phase data_piece c.args.pieces.now c.loop-i.i none c.loop-i-test.true c.args.memories.now.items c.loop-i.memories.items
          c.write_piece.new.memories.items (c.loop-i.invariant.lending phase is hold)
          (item-fits data_piece c.args.pieces.now c.loop-i.i none c.loop-i-test.true refl (bytes_in c.write_piece.new.memories.items)
          (c.loop-i.invariant.writing phase is hold) (omega arith) (rw c.if-not-branch.false at c.in_ok-write_piece.ensures.writes))
          (rw c.if-not-branch.false at c.in_ok-write_piece.ensures.lent);
      still = λ none. absurd (let e = ap length none in omega arith);
    }
