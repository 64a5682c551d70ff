use Rattle.std.proofs.Common.{◌++◌, ◌∷◌, []}
use Rattle.std.proofs.lemmas.Result.{err_from_is_err_and}
use Rattle.form_reader.specs.Views.{group_of}
use Rattle.form_reader.specs.ReadingNumbers.{vector_at}
use Rattle.form_reader.specs.TypeRows.{group}
use Rattle.form_reader.proofs.Loop.{one_fails_all}
use Rattle.form_reader.proofs.Listed.{none_holds, further_holds, at_end, holds_at_end}
use Rattle.form_reader.proofs.HeldGroups.{takes_none, takes_more}
use Rattle.form_reader.proofs.cursor.Cursor.counted_groups.Goals as goal

pub groups-init : goal.groups-init
groups-init g c = none_holds group.read c.in_ok-count.count c.u32.new.self.rest.now _ (takes_none g.T.GroupSink.holds c.args.sink.now)

pub push_group-requires : goal.push_group-requires
push_group-requires g c =
    let taken = c.requires in
    (taken.0 ++ c.groups.invariant.so_far.front, c.groups.invariant.holds taken.0 taken.1)

pub groups-preserved : goal.groups-preserved
groups-preserved g c =
    let x = group_of c.read_into.new.group in
    further_holds group.read c.in_ok-count.count c.groups.counter c.u32.new.self.rest.now c.groups.self.rest.now c.read_into.new.cursor.rest.now
    x _ _ c.groups-test.true c.in_ok-read_into.ensures
    (λ front takes. takes_more g.T.GroupSink.holds c.args.sink.now c.groups.sink c.push_group.new.self front (x ∷ []) takes c.in_ok-push_group.ensures)
    c.groups.invariant

pub returns-in_err-read_into-clause-reads : goal.returns-in_err-read_into-clause-reads
unfolding vector_at
returns-in_err-read_into-clause-reads g c =
    let p = err_from_is_err_and c.from_residual-in_err-read_into.result c.from_residual-in_err-read_into.ensures.1 in
    rw (p.1, p.2, c.in_ok-count.ensures)
    (one_fails_all group.read c.in_ok-count.count c.groups.counter c.groups.invariant.so_far.front c.groups.self.rest.now
    c.in_err-read_into.field-0.0 _ c.groups-test.true c.in_err-read_into.ensures c.groups.invariant.so_far.so_far)

pub returns-clause-reads : goal.returns-clause-reads
unfolding vector_at
returns-clause-reads g c =
    rw c.in_ok-count.ensures
    (at_end group.read c.in_ok-count.count c.groups.counter c.u32.new.self.rest.now c.groups.self.rest.now c.groups-test.false c.groups.invariant.so_far)

pub returns-clause-takes : goal.returns-clause-takes
returns-clause-takes g c =
    holds_at_end group.read c.in_ok-count.count c.groups.counter c.u32.new.self.rest.now c.groups.self.rest.now _ c.groups-test.false c.groups.invariant
