use Rattle.std.proofs.Common.{◌≡◌, length, refl, subst, arith}
use Rattle.std.proofs.lemmas.List.{map_push}
use Rattle.std.proofs.lemmas.Option.{slice_get-get_or, slice_get_read}
use Rattle.replay_spec.specs.Images.{ImageOf}
use Rattle.memory_images.specs.Contents.{contents_at}
use Rattle.memory_images.specs.Images.{AreListed, images_of}
use Rattle.memory_images.proofs.Sizes.{listed_more, span_from, image_at}
use Rattle.memory_images.proofs.image.make_all.Goals as goal

pub making-preserved : goal.making-preserved
making-preserved c = λ page spans.
    let all = c.args.memories.now in
    let m = c.making.m in
    let t = c.making-test.true in
    let n = c.requires.count in
    let laid = c.index-memories-m.result in
    let at = slice_get_read all _ m laid refl t c.index-memories-m.is in
    let span = span_from page all m laid _ at (spans.each m _ (slice_get-get_or c.args.spans.now m _ (omega (arith, t, n)))) in
    let image = image_at page all m laid _ at ((rw c.as_slice.ensures.value at c.in_ok-make_image.ensures) page span) in
    rw (c.in_ok-push.ensures.items, map_push) (listed_more (λ m. ImageOf page (contents_at all m)) m (images_of c.making.images.items) _ image (c.making.invariant page spans))

pub returns : goal.returns
returns c = λ page spans.
    let all : c.making.m ≡ length c.args.memories.now = let t = c.making-test.false in let e = c.making.auto.m-end in omega (arith, t, e) in
    subst (λ n. AreListed (λ m. ImageOf page (contents_at c.args.memories.now m)) n (images_of c.making.images.items)) all (c.making.invariant page spans)
