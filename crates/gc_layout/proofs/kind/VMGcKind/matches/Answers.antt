use Rattle.gc_layout.proofs.Bits.{matches_by_and}
use Rattle.gc_layout.proofs.kind.VMGcKind.matches.Goals as goal

pub returns : goal.returns
returns c = rw (c.as_u32.ensures, c.as_u32-2.ensures, c.as_u32-3.ensures) (matches_by_and _ _)
