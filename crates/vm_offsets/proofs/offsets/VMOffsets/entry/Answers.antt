-- The entry at a position is the entry of the context.
use Rattle.std.proofs.Common.{arith}
use Rattle.vm_offsets.proofs.Kept.{kept_at}
use Rattle.vm_offsets.proofs.offsets.VMOffsets.entry.Goals as goal

pub returns : goal.returns
returns g c = kept_at _ _ c.args.place c.args.self.now.placed (omega arith)
