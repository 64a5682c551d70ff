use Rattle.std.proofs.Common.{length}
use Rattle.form_reader.proofs.CustomRuns.{RunSoFar}
use Rattle.form_reader.proofs.cursor.Cursor.customs.Given as goal

abbrev pub invariant-customs : goal.invariant-customs
invariant-customs l = RunSoFar l.count l.bytes l.self.rest.now

abbrev pub decreases-customs : goal.decreases-customs
decreases-customs l = length l.self.rest.now
