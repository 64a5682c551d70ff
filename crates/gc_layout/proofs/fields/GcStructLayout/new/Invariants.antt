use Rattle.std.proofs.Common.{take}
use Rattle.gc_layout.proofs.Placing.{ArePlaced}
use Rattle.gc_layout.proofs.fields.GcStructLayout.new.Given as goal

abbrev pub invariant-loop-field : goal.invariant-loop-field
invariant-loop-field l = ArePlaced l.header_size (take l.field-index l.fields) l.end l.align l.placed.items
