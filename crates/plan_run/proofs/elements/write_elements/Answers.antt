use Rattle.std.proofs.Common.{◌∙◌, length, sym, arith}
use Rattle.std.proofs.lemmas.List.{length-map}
use Rattle.plan_run.specs.Tables.{cells_in, element_piece}
use Rattle.plan_run.specs.Values.{values_in}
use Rattle.plan_run.proofs.PieceSteps.{item-written, item-traps}
use Rattle.plan_run.proofs.elements.write_elements.Goals as goal

pub returns-then-not-write_cells-clause-writes : goal.returns-then-not-write_cells-clause-writes
returns-then-not-write_cells-clause-writes c = λ terms phase is hold.
    let p = c.index-pieces-i.result in
    let long = length-map c.loop-i.tables.items (λ t. values_in terms t.items) in
    let within = rw (← c.index-pieces-i.is) at (c.requires c.loop-i.i p c.loop-i-test.true) in
    item-traps (element_piece terms) c.args.pieces.now c.loop-i.i p c.loop-i-test.true (sym c.index-pieces-i.is) (cells_in terms c.write_cells.new.tables.items)
    (c.loop-i.invariant.writing terms phase is hold) (omega arith) (length c.args.tables.now.items) (omega arith) (rw c.if-not-write_cells.true at (c.write_cells.ensures.writes terms))

pub returns-then-not-write_cells-clause-below : goal.returns-then-not-write_cells-clause-below
returns-then-not-write_cells-clause-below c = λ k below all.
    c.write_cells.ensures.below k (c.loop-i.invariant.below k below all) (rw c.index-pieces-i.is (all c.loop-i.i c.index-pieces-i.result c.loop-i-test.true))

pub loop-i-preserved : goal.loop-i-preserved
loop-i-preserved c =
    let p = c.index-pieces-i.result in
    let within = rw (← c.index-pieces-i.is) at (c.requires c.loop-i.i p c.loop-i-test.true) in
    record {
      count = c.write_cells.ensures.count ∙ c.loop-i.invariant.count;
      writing = λ terms phase is hold.
          let long = length-map c.loop-i.tables.items (λ t. values_in terms t.items) in
          item-written (element_piece terms) c.args.pieces.now c.loop-i.i p c.loop-i-test.true (sym c.index-pieces-i.is) (cells_in terms c.write_cells.new.tables.items)
          (c.loop-i.invariant.writing terms phase is hold) (omega arith) (rw c.if-not-write_cells.false at (c.write_cells.ensures.writes terms));
      below = λ k below all. c.write_cells.ensures.below k (c.loop-i.invariant.below k below all) (rw c.index-pieces-i.is (all c.loop-i.i p c.loop-i-test.true));
    }
