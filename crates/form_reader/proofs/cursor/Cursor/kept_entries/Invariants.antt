use Rattle.std.proofs.Common.{◌≡◌, ◌++◌, map}
use Rattle.form_reader.proofs.Listed.{HoldsSoFar}
use Rattle.form_reader.proofs.cursor.Cursor.kept_entries.Given as goal

abbrev pub invariant-kept : goal.invariant-kept
invariant-kept g l = HoldsSoFar g.E.InputEntry.form l.count l.counter l.bytes l.self.rest.now
    (λ front. map g.E.InputEntry.view l.kept.items ≡ map g.E.InputEntry.view l.initial.kept.items ++ front)
