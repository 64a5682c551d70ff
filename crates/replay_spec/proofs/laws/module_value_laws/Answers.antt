use Rattle.replay_spec.proofs.Evaluated.{globals-of-class, have-values}
use Rattle.replay_spec.proofs.laws.module_value_laws.Goals as goal

pub returns-clause-globals : goal.returns-clause-globals
returns-clause-globals c = λ m imported keeps given. globals-of-class m keeps imported given

pub returns-clause-values : goal.returns-clause-values
returns-clause-values c = λ m imported keeps given. have-values m keeps imported given
