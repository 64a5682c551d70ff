use Rattle.form_reader.specs.Input.{AddsGroups}
use Rattle.form_reader.specs.TypeRows.{group}
use Rattle.form_reader.proofs.Listed.{HoldsSoFar}
use Rattle.form_reader.proofs.cursor.Cursor.counted_groups.Given as goal

abbrev pub invariant-groups : goal.invariant-groups
invariant-groups g l = HoldsSoFar group.read l.count l.counter l.bytes l.self.rest.now (AddsGroups g.T.GroupSink.holds l.initial.sink l.sink)
