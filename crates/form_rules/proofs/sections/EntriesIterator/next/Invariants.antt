use Rattle.std.proofs.Common.{◌≡◌}
use Rattle.form_rules.specs.Source.{steps_left}
use Rattle.form_rules.specs.Sections.{entries_left}
use Rattle.form_rules.proofs.sections.EntriesIterator.next.Given as goal

abbrev pub invariant-loop-first : goal.invariant-loop-first
invariant-loop-first g l = entries_left g.T.FormEntry.as_data g.T.FormEntry.of_section l.self ≡ entries_left g.T.FormEntry.as_data g.T.FormEntry.of_section l.fn.self

-- the remaining steps
abbrev pub decreases-loop-first : goal.decreases-loop-first
decreases-loop-first g l = steps_left l.self.sections
