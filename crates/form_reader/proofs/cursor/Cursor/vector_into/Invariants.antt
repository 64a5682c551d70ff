use Rattle.std.proofs.Common.{map, ◌≡◌, ◌-◌}
use Rattle.form_reader.specs.Reading.{elements_at}
use Rattle.form_reader.proofs.Loop.{with_front}
use Rattle.form_reader.proofs.cursor.Cursor.vector_into.Given as goal

abbrev pub invariant-entries : goal.invariant-entries
invariant-entries g l = with_front (map g.E.Entry.view l.all.items) (elements_at g.E.Entry.form (l.count - l.counter) l.self.rest.now)
    ≡ elements_at g.E.Entry.form l.count l.initial.self.rest.now
