use Rattle.type_spec.specs.Equality.{SameDown}
use Rattle.type_spec.proofs.Canonical.{canonical-same}
use Rattle.type_spec.proofs.laws.canonical_law.Goals as goal

pub returns : goal.returns
returns c = λ depth ms ns. canonical-same (SameDown depth ms ns)
