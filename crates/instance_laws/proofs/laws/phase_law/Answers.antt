use Rattle.instance_laws.proofs.Runs.{leaves}
use Rattle.instance_laws.proofs.laws.phase_law.Goals as goal

pub returns-clause-bytes : goal.returns-clause-bytes
returns-clause-bytes c = leaves

pub returns-clause-cells : goal.returns-clause-cells
returns-clause-cells c = leaves
