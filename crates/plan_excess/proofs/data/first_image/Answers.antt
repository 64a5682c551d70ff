use Rattle.translate.specs.Options.{init_options}
use Rattle.plan_excess.proofs.ImageFound.{data-fits, images-pass, image-found}
use Rattle.plan_excess.proofs.data.first_image.Goals as goal

pub too_large_at-found-requires-clause-ready : goal.too_large_at-found-requires-clause-ready
too_large_at-found-requires-clause-ready c = c.in_ok-translation.ensures.ready.memories

pub unreachable-requires : goal.unreachable-requires
unreachable-requires c =
    let i = init_options c.args.tunables.now c.args.page_size c.args.max_image in
    let told = c.in_ok-translation.ensures in
    (rw c.in-None.is at c.in_ok-memory.ensures.none) (data-fits i told) (images-pass i told c.requires.much)

pub returns : goal.returns
returns c =
    let i = init_options c.args.tunables.now c.args.page_size c.args.max_image in
    rw c.as_u32.ensures (image-found i c.in_ok-translation.ensures _ (rw c.in-Some.is at c.in_ok-memory.ensures.bound)
    (rw c.in-Some.is at c.in_ok-memory.ensures.past))
