use Rattle.std.proofs.Common.{length, map, drop, arith, length-drop}
use Rattle.std.proofs.lemmas.List.{length-map, take_rest}
use Rattle.memory_images.specs.Views.{image_memory, active_segment_of, options_of}
use Rattle.memory_images.proofs.Replayed.{pass_here, fit_here}
use Rattle.memory_images.proofs.plan.too_large_at.Goals as goal

pub returns-in-Some-clause-past : goal.returns-in-Some-clause-past
returns-in-Some-clause-past c =
    let layout = rw (c.in-Some.is, take_rest) at c.in_ok-static_layout.ensures in
    let past = rw c.as_slice.ensures.value at c.image_past.ensures.past in
    pass_here c.args.imported (map image_memory (drop c.args.imported c.args.memories.now)) (map active_segment_of c.args.segments.now) c.in-Some.all.items layout.laid
    (options_of c.args.settings) c.args.passive layout.holds c.image_past.result past

pub returns-in-Some-clause-none : goal.returns-in-Some-clause-none
returns-in-Some-clause-none c =
    let laid = rw (c.in-Some.is, take_rest) at c.in_ok-static_layout.ensures.laid in
    let none = rw c.as_slice.ensures.value at c.image_past.ensures.none in
    fit_here c.args.imported (map image_memory (drop c.args.imported c.args.memories.now)) (map active_segment_of c.args.segments.now) c.in-Some.all.items laid
    (options_of c.args.settings) c.args.passive (length c.args.memories.now) (grind (arith, length-map, length-drop, laid.count, c.requires.imports)) c.image_past.result none
