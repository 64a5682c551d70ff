use Rattle.form_reader.proofs.Listed.{SoFar}
use Rattle.form_reader.proofs.cursor.Cursor.counted_entries.Given as goal

abbrev pub invariant-entries : goal.invariant-entries
invariant-entries g l = SoFar g.E.InputEntry.form l.count l.counter l.bytes l.self.rest.now
