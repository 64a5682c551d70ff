use Rattle.run_laws.proofs.ModuleFields.{has-fields}
use Rattle.run_laws.proofs.LaidWhole.{planned-fields}
use Rattle.run_laws.proofs.StartupTypes.{translated-fields}
use Rattle.run_laws.proofs.laws.fields_law.Goals as goal

pub returns-clause-listed : goal.returns-clause-listed
returns-clause-listed c = λ m t types startup keeps listed built. has-fields m t types startup keeps listed built

pub returns-clause-translated : goal.returns-clause-translated
returns-clause-translated c = translated-fields

pub returns-clause-planned : goal.returns-clause-planned
returns-clause-planned c = λ o bytes plan is. planned-fields o bytes plan is
