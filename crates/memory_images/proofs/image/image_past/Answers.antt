use Rattle.std.proofs.Common.{length}
use Rattle.memory_images.specs.Contents.{contents_at}
use Rattle.memory_images.proofs.Sizes.{pass_there, fit_there}
use Rattle.memory_images.proofs.image.image_past.Goals as goal

pub returns-clause-past : goal.returns-clause-past
returns-clause-past c =
    let past = rw c.as_slice.ensures.value at c.span_past.ensures in
    pass_there c.args.page (contents_at c.args.memories.now) (length c.args.memories.now) c.in_ok-spans.spans.items c.in_ok-spans.ensures
    c.args.passive c.span_past.result past.bound past.before past.with

pub returns-clause-none : goal.returns-clause-none
returns-clause-none c =
    let past = rw c.as_slice.ensures.value at c.span_past.ensures in
    fit_there c.args.page (contents_at c.args.memories.now) (length c.args.memories.now) c.in_ok-spans.spans.items c.in_ok-spans.ensures
    c.args.passive c.span_past.result past.none
