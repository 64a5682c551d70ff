use Rattle.std.proofs.Common.{map, arith, refl}
use Rattle.std.proofs.lemmas.List.{length-map, map_more}
use Rattle.replay_spec.specs.Images.{IsPlaced}
use Rattle.memory_images.specs.Views.{image_memory, active_segment_of}
use Rattle.memory_images.proofs.Adding.{more, in_range}
use Rattle.memory_images.proofs.Lists.{all_mapped}
use Rattle.memory_images.proofs.layout.lay_out.Goals as goal

pub returns-in-None-clause-none : goal.returns-in-None-clause-none
returns-in-None-clause-none c = λ all.
    c.in-None.ensures.none (rw c.segment-item.is (all_mapped active_segment_of (IsPlaced c.args.imported (map image_memory c.args.defined.now)) c.args.segments.now c.segments.segment-index _ all c.segments-test.true))

pub add-requires : goal.add-requires
add-requires c =
    let l = in_range c.args.imported c.args.defined.now _ c.in-Some.ensures.some.0 in
    let n = c.segments.invariant.count in
    omega (arith, l, n)

pub segments-preserved : goal.segments-preserved
segments-preserved c = record {
  count = let n = c.segments.invariant.count in omega (arith, n, c.in_ok-add-in-Some.ensures.len);
  laid =
      let l = in_range c.args.imported c.args.defined.now _ c.in-Some.ensures.some.0 in
      let n = c.segments.invariant.laid.count in
      let k = length-map c.args.defined.now image_memory in
      let adds = rw c.index.ensures.number at c.in_ok-add-in-Some.ensures.adds in
      rw (map_more active_segment_of c.args.segments.now c.segments.segment-index c.segment-item.result c.segments-test.true, ← c.segment-item.is)
      (more _ (active_segment_of c.segment-item.result) c.in-Some.ensures.some.1 refl c.args.imported (map image_memory c.args.defined.now) _ c.segments.all.items _ c.in-Some.ensures.some.0
      (omega (arith, l, n, k)) adds c.segments.invariant.laid);
}
