use Rattle.std.proofs.Common.{map, refl}
use Rattle.memory_images.specs.Views.{image_memory, active_segment_of}
use Rattle.memory_images.proofs.ImageRule.{all_fit}
use Rattle.memory_images.proofs.rule.static_layout.Goals as goal

pub returns-then-may_be_images-clause-fits : goal.returns-then-may_be_images-clause-fits
returns-then-may_be_images-clause-fits c =
    all_fit c.args.imported (map image_memory c.args.defined.now) (map active_segment_of c.args.segments.now) c.in-Some.all.items (rw c.in-Some.is at c.in_ok-lay_out.ensures.some)

pub returns-then-may_be_images-clause-holds : goal.returns-then-may_be_images-clause-holds
returns-then-may_be_images-clause-holds c =
    let laid = rw c.in-Some.is at c.in_ok-lay_out.ensures.some in
    record { enabled = c.requires.enabled; placed = laid.placed; images = c.if-may_be_images.ensures.0 refl }
