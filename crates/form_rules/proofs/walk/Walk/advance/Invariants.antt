use Rattle.std.proofs.Common.{◌≡◌}
use Rattle.form_rules.specs.Source.{steps_left}
use Rattle.form_rules.specs.Walk.{walk_left}
use Rattle.form_rules.proofs.walk.Walk.advance.Given as goal

abbrev pub invariant-loop-self : goal.invariant-loop-self
invariant-loop-self g l = walk_left g.E.InputEntry.form g.E.InputEntry.view g.E.InputEntry.of_section l.self
    ≡ walk_left g.E.InputEntry.form g.E.InputEntry.view g.E.InputEntry.of_section l.initial.self

-- the remaining steps
abbrev pub decreases-loop-self : goal.decreases-loop-self
decreases-loop-self g l = steps_left l.self.sections
