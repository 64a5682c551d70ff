use Rattle.std.specs.Prelude.{length}
use Rattle.form_rules.specs.Walk.{walk_left}
use Rattle.rule_breaks.proofs.Numbered.{Remaining}
use Rattle.rule_breaks.proofs.finding.advance_to.Given as goal

-- the entry has another number among those that remain
abbrev pub invariant-loop-left : goal.invariant-loop-left
invariant-loop-left g l =
    Remaining (walk_left g.E.InputEntry.form g.E.InputEntry.view g.E.InputEntry.of_section l.initial.walk)
    (walk_left g.E.InputEntry.form g.E.InputEntry.view g.E.InputEntry.of_section l.walk) l.entry l.left

abbrev pub decreases-loop-left : goal.decreases-loop-left
decreases-loop-left g l = length (walk_left g.E.InputEntry.form g.E.InputEntry.view g.E.InputEntry.of_section l.walk)
