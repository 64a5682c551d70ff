use Rattle.std.proofs.Common.{◌+◌, take, get_or, []}
use Rattle.std.proofs.lemmas.List.{take_all}
use Rattle.memory_images.specs.declared.placed_segment.PlacedSegment.{PlacedSegment}
use Rattle.memory_images.specs.Contents.{contents_of}
use Rattle.memory_images.proofs.Ends.{bounds_joined}
use Rattle.memory_images.proofs.Filling.{contents_more}
use Rattle.memory_images.proofs.span.outer_ends.Goals as goal

abbrev no_bytes : PlacedSegment
no_bytes = record { start = 0; bytes = record { ref_ptr = (0, 0); now = [] } }

pub laid-preserved : goal.laid-preserved
laid-preserved c =
    let laid = c.args.laid.now in
    let k = c.laid.x-index in
    rw c.join-ends.ensures
    (bounds_joined (contents_of (take k laid)) (contents_of (take (k + 1) laid)) (get_or laid k no_bytes) (λ place. contents_more laid k place no_bytes c.laid-test.true) _ _ c.laid.invariant c.ends_in.ensures.ends)

pub returns : goal.returns
returns c = rw (take_all c.laid.x-index c.args.laid.now c.laid-test.false) at c.laid.invariant
