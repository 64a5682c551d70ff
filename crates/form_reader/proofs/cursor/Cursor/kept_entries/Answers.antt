use Rattle.std.proofs.Common.{◌∙◌, [], ◌∷◌, ◌++◌, map, sym, ap, append_assoc}
use Rattle.std.proofs.lemmas.Result.{err_from_is_err_and}
use Rattle.std.proofs.lemmas.List.{append-nil, map_push}
use Rattle.form_reader.specs.ReadingNumbers.{vector_at}
use Rattle.form_reader.proofs.Loop.{one_fails_all}
use Rattle.form_reader.proofs.Listed.{none_holds, further_holds, at_end, holds_at_end}
use Rattle.form_reader.proofs.cursor.Cursor.kept_entries.Goals as goal

pub kept-init : goal.kept-init
kept-init g c =
    none_holds g.E.InputEntry.form c.in_ok-count.count c.u32.new.self.rest.now _
    (sym (append-nil (map g.E.InputEntry.view c.reserve_exact.new.self.items)))

pub kept-preserved : goal.kept-preserved
kept-preserved g c =
    let view = g.E.InputEntry.view in
    let x = view c.read_into.new.entry in
    let before = map view c.reserve_exact.new.self.items in
    further_holds g.E.InputEntry.form c.in_ok-count.count c.kept.counter c.u32.new.self.rest.now c.kept.self.rest.now c.read_into.new.cursor.rest.now
    x _ _ c.kept-test.true c.in_ok-read_into.ensures
    (λ front is. ap (map view) c.in_ok-push.ensures.items ∙ map_push view c.kept.kept.items c.read_into.new.entry ∙ ap (λ xs. xs ++ x ∷ []) is
    ∙ append_assoc before front (x ∷ [])) c.kept.invariant

pub returns-in_err-read_into-clause-reads : goal.returns-in_err-read_into-clause-reads
unfolding vector_at
returns-in_err-read_into-clause-reads g c =
    let p = err_from_is_err_and c.from_residual-in_err-read_into.result c.from_residual-in_err-read_into.ensures.1 in
    rw (p.1, p.2, c.in_ok-count.ensures)
    (one_fails_all g.E.InputEntry.form c.in_ok-count.count c.kept.counter c.kept.invariant.so_far.front c.kept.self.rest.now
    c.in_err-read_into.field-0.0 _ c.kept-test.true c.in_err-read_into.ensures c.kept.invariant.so_far.so_far)

pub returns-clause-reads : goal.returns-clause-reads
unfolding vector_at
returns-clause-reads g c =
    rw c.in_ok-count.ensures
    (at_end g.E.InputEntry.form c.in_ok-count.count c.kept.counter c.u32.new.self.rest.now c.kept.self.rest.now c.kept-test.false
    c.kept.invariant.so_far)

pub returns-clause-keeps : goal.returns-clause-keeps
returns-clause-keeps g c =
    rw (sym c.reserve_exact.ensures.items)
    (holds_at_end g.E.InputEntry.form c.in_ok-count.count c.kept.counter c.u32.new.self.rest.now c.kept.self.rest.now _ c.kept-test.false c.kept.invariant)
