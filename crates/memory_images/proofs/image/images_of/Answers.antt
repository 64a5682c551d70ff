use Rattle.std.proofs.Common.{length, arith}
use Rattle.memory_images.specs.Contents.{contents_at}
use Rattle.memory_images.specs.Images.{images_of}
use Rattle.memory_images.proofs.Sizes.{same_sums}
use Rattle.memory_images.proofs.image.images_of.Goals as goal

pub returns-then-total-from-clause-too_large : goal.returns-then-total-from-clause-too_large
returns-then-total-from-clause-too_large c = λ _ images listed.
    let t = rw c.as_slice.ensures.value at c.total.ensures in
    let same = same_sums c.args.page (contents_at c.args.memories.now) (length c.args.memories.now) c.in_ok-spans.spans.items images c.in_ok-spans.ensures listed in
    omega (arith, t, same, c.if-total-from.true, c.from.ensures)

pub returns-clause-images : goal.returns-clause-images
returns-clause-images c = c.in_ok-images.ensures c.args.page (rw c.as_slice-2.ensures.value c.in_ok-spans.ensures)

pub returns-clause-fits : goal.returns-clause-fits
returns-clause-fits c =
    let t = rw c.as_slice.ensures.value at c.total.ensures in
    let listed = c.in_ok-images.ensures c.args.page (rw c.as_slice-2.ensures.value c.in_ok-spans.ensures) in
    let same = same_sums c.args.page (contents_at c.args.memories.now) (length c.args.memories.now) c.in_ok-spans.spans.items (images_of c.in_ok-images.images.items) c.in_ok-spans.ensures listed in
    omega (arith, t, same, c.if-total-from.false, c.from.ensures)
