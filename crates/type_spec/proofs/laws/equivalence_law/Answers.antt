use Rattle.type_spec.proofs.Equivalence.{type-itself, type-turned, type-chained, type-deep}
use Rattle.type_spec.proofs.laws.equivalence_law.Goals as goal

pub returns-clause-itself : goal.returns-clause-itself
returns-clause-itself c = type-itself

pub returns-clause-turned : goal.returns-clause-turned
returns-clause-turned c = type-turned

pub returns-clause-chained : goal.returns-clause-chained
returns-clause-chained c = type-chained

pub returns-clause-deep : goal.returns-clause-deep
returns-clause-deep c = type-deep
