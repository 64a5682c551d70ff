use Rattle.std.proofs.Common.{◌≡◌}
use Rattle.form_rules.specs.Source.{steps_left}
use Rattle.form_rules.specs.Singles.{singles_left}
use Rattle.form_rules.proofs.singles.SinglesIterator.next.Given as goal

abbrev pub invariant-loop-custom : goal.invariant-loop-custom
invariant-loop-custom l = singles_left l.self ≡ singles_left l.fn.self

-- the remaining steps
abbrev pub decreases-loop-custom : goal.decreases-loop-custom
decreases-loop-custom l = steps_left l.self.sections
