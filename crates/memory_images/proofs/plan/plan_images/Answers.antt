use Rattle.std.proofs.Common.{length, map, drop, arith, length-drop}
use Rattle.std.proofs.lemmas.List.{length-map, take_rest}
use Rattle.std.proofs.lemmas.Grind.{common_steps}
use Rattle.memory_images.specs.Views.{image_memory, active_segment_of}
use Rattle.memory_images.proofs.Replayed.{are_images, of_laid}
use Rattle.memory_images.proofs.plan.plan_images.Goals as goal

pub returns-in_ok-images-in-Some-clause-images : goal.returns-in_ok-images-in-Some-clause-images
returns-in_ok-images-in-Some-clause-images c =
    let laid = rw (c.in-Some.is, take_rest) at c.in_ok-static_layout.ensures.laid in
    let images = rw c.as_slice.ensures.value at c.in_ok-images-in-Some.ensures.images in
    are_images c.args.imported (map image_memory (drop c.args.imported c.args.memories.now)) (map active_segment_of c.args.segments.now) c.in-Some.all.items laid (length c.args.memories.now)
    c.args.settings.page_size (grind (arith, length-map, length-drop, laid.count, c.requires.imports)) _ images

pub returns-in_err-images-in-Some-clause-too_large : goal.returns-in_err-images-in-Some-clause-too_large
returns-in_err-images-in-Some-clause-too_large c = λ is images are.
    let laid = rw (c.in-Some.is, take_rest) at c.in_ok-static_layout.ensures.laid in
    let much = rw c.as_slice.ensures.value at c.in_err-images-in-Some.ensures.too_large in
    much (grind (arith, common_steps, c.from_residual-in_err-images-in-Some.ensures, is)) images
    (of_laid c.args.imported (map image_memory (drop c.args.imported c.args.memories.now)) (map active_segment_of c.args.segments.now) c.in-Some.all.items laid (length c.args.memories.now)
    c.args.settings.page_size (grind (arith, length-map, length-drop, laid.count, c.requires.imports)) images are)
