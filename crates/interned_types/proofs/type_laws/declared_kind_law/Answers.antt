use Rattle.interned_types.proofs.DeclaredKinds.{declared-kind}
use Rattle.interned_types.proofs.type_laws.declared_kind_law.Goals as goal

pub returns : goal.returns
returns c = declared-kind
