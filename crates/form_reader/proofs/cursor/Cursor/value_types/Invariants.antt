use Rattle.std.proofs.Common.{◌≡◌, ◌-◌}
use Rattle.form_reader.specs.Reading.{elements_at}
use Rattle.form_reader.specs.TypeRows.{value_type}
use Rattle.form_reader.proofs.Loop.{with_front}
use Rattle.form_reader.proofs.cursor.Cursor.value_types.Given as goal

-- the list and what remains give what the run of number types and what follows it give
abbrev pub invariant-others : goal.invariant-others
invariant-others l = with_front l.all.items (elements_at value_type.read (l.left - l.counter) l.self.rest.now)
    ≡ with_front l.initial.all.items (elements_at value_type.read l.left l.initial.self.rest.now)
