use Rattle.std.proofs.Common.{arith}
use Rattle.std.proofs.lemmas.List.{length-map}
use Rattle.entity_map.proofs.LentLemmas.{refill-same_length}
use Rattle.table_images.specs.Steps.{images_of}
use Rattle.table_images.proofs.Tables.{length-defined}
use Rattle.table_images.proofs.Planned.{planned-images}
use Rattle.table_images.proofs.plan.plan_images.Goals as goal

pub take_segments-requires-clause-each : goal.take_segments-requires-clause-each
take_segments-requires-clause-each c = grind (arith, length-map, length-defined)

pub returns-clause-count : goal.returns-clause-count
returns-clause-count c = grind (arith, refill-same_length)

pub returns-clause-left : goal.returns-clause-left
returns-clause-left c = grind (arith, refill-same_length)

pub returns-clause-planned : goal.returns-clause-planned
returns-clause-planned c =
    let ts = c.args.tables.now in
    let vs = c.args.initialization.now.initial_values in
    let new = c.drop_imaged.new.values in
    let is_values = c.as_slice.ensures in
    let is_segments = c.as_slice-2.ensures.value in
    let was = c.as_mut_slice.ensures.values in
    let taken = rw (is_values, is_segments) at c.in_ok-taken.ensures.images in
    let stops = rw (is_values, is_segments) at c.in_ok-taken.ensures.stops in
    let kept = rw was at c.drop_imaged.ensures.kept in
    let count = rw was at c.drop_imaged.ensures.count in
    rw (refill-same_length vs new count)
    (planned-images c.args.imported ts vs new c.args.initialization.now.segments.items c.in_ok-initialization.field-0.items c.in_ok-taken.taken (images_of c.args.images.now)
    (images_of c.take_segments.new.images) c.requires.paired count kept c.in_ok-initialization.ensures.tail c.requires.first taken stops)
