use Rattle.std.proofs.lemmas.Result.{err_from_is_err_and}
use Rattle.form_reader.specs.ReadingNumbers.{vector_at}
use Rattle.form_reader.proofs.Passed.{past, past_fails}
use Rattle.form_reader.proofs.Loop.{one_fails_all}
use Rattle.form_reader.proofs.Listed.{none_yet, further, at_end}
use Rattle.form_reader.proofs.cursor.Cursor.counted_entries.Goals as goal

pub entries-init : goal.entries-init
entries-init g c = none_yet g.E.InputEntry.form c.in_ok-count.count c.u32.new.self.rest.now

pub entries-preserved : goal.entries-preserved
entries-preserved g c =
    let passed = past g.E.InputEntry.form c.entries.self.rest.now c.pass.new.cursor.rest.now c.in_ok-pass.ensures in
    further g.E.InputEntry.form c.in_ok-count.count c.entries.counter c.u32.new.self.rest.now c.entries.self.rest.now c.pass.new.cursor.rest.now
    passed.0 c.entries-test.true passed.1 c.entries.invariant

pub returns-in_err-pass : goal.returns-in_err-pass
unfolding vector_at
returns-in_err-pass g c =
    let p = err_from_is_err_and c.from_residual-in_err-pass.result c.from_residual-in_err-pass.ensures.1 in
    rw (p.1, p.2, c.in_ok-count.ensures)
    (one_fails_all g.E.InputEntry.form c.in_ok-count.count c.entries.counter c.entries.invariant.front c.entries.self.rest.now
    c.in_err-pass.field-0.0 _ c.entries-test.true (past_fails g.E.InputEntry.form c.in_err-pass.field-0.0 c.entries.self.rest.now c.in_err-pass.ensures) c.entries.invariant.so_far)

pub returns : goal.returns
unfolding vector_at
returns g c =
    rw c.in_ok-count.ensures
    (at_end g.E.InputEntry.form c.in_ok-count.count c.entries.counter c.u32.new.self.rest.now c.entries.self.rest.now c.entries-test.false c.entries.invariant)
