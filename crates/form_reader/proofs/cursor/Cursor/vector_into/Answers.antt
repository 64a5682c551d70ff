use Rattle.std.proofs.Common.{◌≡◌, ◌-◌, map, arith}
use Rattle.std.proofs.lemmas.Result.{err_from_is_err_and}
use Rattle.std.proofs.lemmas.List.{map-append}
use Rattle.form_reader.specs.Reading.{elements_at}
use Rattle.form_reader.specs.ReadingNumbers.{vector_at}
use Rattle.form_reader.proofs.Loop.{all_so_far, one_more, one_fails_all, all_read}
use Rattle.form_reader.proofs.cursor.Cursor.vector_into.Goals as goal

pub entries-init : goal.entries-init
entries-init g c =
    let k : c.in_ok-count.count - 0 ≡ c.in_ok-count.count = omega arith in
    rw (c.reserve_exact.ensures.items, c.clear.ensures.items, k) (all_so_far (elements_at g.E.Entry.form c.in_ok-count.count c.u32.new.self.rest.now))

pub entries-preserved : goal.entries-preserved
entries-preserved g c =
    rw (c.in_ok-push.ensures.items, map-append)
    (one_more g.E.Entry.form c.in_ok-count.count c.entries.counter (map g.E.Entry.view c.entries.all.items) (g.E.Entry.view c.in_ok-one.one)
    c.entries.self.rest.now c.read.new.cursor.rest.now _ c.entries-test.true c.in_ok-one.ensures c.entries.invariant)

pub returns-in_err-one : goal.returns-in_err-one
unfolding vector_at
returns-in_err-one g c =
    let p = err_from_is_err_and c.from_residual-in_err-one.result c.from_residual-in_err-one.ensures.1 in
    rw (p.1, p.2, c.in_ok-count.ensures)
    (one_fails_all g.E.Entry.form c.in_ok-count.count c.entries.counter (map g.E.Entry.view c.entries.all.items) c.entries.self.rest.now
    c.in_err-one.field-0.0 _ c.entries-test.true c.in_err-one.ensures c.entries.invariant)

pub returns : goal.returns
unfolding vector_at
returns g c =
    rw c.in_ok-count.ensures
    (all_read g.E.Entry.form c.in_ok-count.count c.entries.counter (map g.E.Entry.view c.entries.all.items) c.entries.self.rest.now _
    c.entries-test.false c.entries.invariant)
