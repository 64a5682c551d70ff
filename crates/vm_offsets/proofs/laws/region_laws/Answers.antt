-- By the labels of the entries.
use Rattle.vm_offsets.proofs.Labels.{sum_by-context_regions}
use Rattle.vm_offsets.proofs.laws.region_laws.Goals as goal

pub returns : goal.returns
returns g c = λ pointer fields. sum_by-context_regions pointer fields
