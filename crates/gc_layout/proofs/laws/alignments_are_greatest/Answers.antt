use Rattle.gc_layout.proofs.AlignmentLaws.{at_least_eight, of_each, one_of, power_of_two}
use Rattle.gc_layout.proofs.laws.alignments_are_greatest.Goals as goal

pub returns-clause-at_least_eight : goal.returns-clause-at_least_eight
returns-clause-at_least_eight c = at_least_eight

pub returns-clause-of_each : goal.returns-clause-of_each
returns-clause-of_each c = of_each

pub returns-clause-one_of : goal.returns-clause-one_of
returns-clause-one_of c = one_of

pub returns-clause-power_of_two : goal.returns-clause-power_of_two
returns-clause-power_of_two c = power_of_two
