-- The parts give the regions.
use Rattle.vm_offsets.proofs.Labels.{regions_back-context, Falls-context}
use Rattle.vm_offsets.proofs.offsets.VMOffsets.region_sizes.Goals as goal

pub invariant_of-result : goal.invariant_of-result
invariant_of-result g c = Falls-context _ _ _ c.parts.result c.parts.ensures c.args.self.now.sized

pub returns : goal.returns
returns g c = regions_back-context _ _ _ c.parts.result c.parts.ensures c.args.self.now.sized
