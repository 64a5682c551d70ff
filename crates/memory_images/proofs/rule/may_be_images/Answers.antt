use Rattle.std.proofs.Common.{◌+◌, map, refl, arith, below_more}
use Rattle.std.proofs.lemmas.Bool.{false≢true}
use Rattle.std.proofs.lemmas.List.{length-map}
use Rattle.std.proofs.lemmas.Option.{slice_get_within}
use Rattle.replay_spec.specs.Images.{bytes_on}
use Rattle.memory_images.specs.Views.{image_memory, active_segment_of, options_of}
use Rattle.memory_images.proofs.ImageRule.{all_fit, laid_same, memory_at, may_here}
use Rattle.memory_images.proofs.rule.may_be_images.Goals as goal

pub may_be_image-requires-clause-fits : goal.may_be_image-requires-clause-fits
may_be_image-requires-clause-fits c =
    let t = c.memories-test.true in
    let n = c.requires.laid.count in
    let k = length-map c.args.defined.now image_memory in
    rw (c.as_slice.ensures.value, c.index-all-imported.is)
    (all_fit c.args.imported (map image_memory c.args.defined.now) (map active_segment_of c.args.segments.now) c.args.all.now c.requires.laid (c.args.imported + c.memories.m) _ (omega arith))

pub returns-then-not-may_be_image : goal.returns-then-not-may_be_image
returns-then-not-may_be_image c =
    let t = c.memories-test.true in
    let n = c.requires.laid.count in
    let k = length-map c.args.defined.now image_memory in
    let m = c.args.imported + c.memories.m in
    let same = laid_same c.args.imported (map image_memory c.args.defined.now) (map active_segment_of c.args.segments.now) c.args.all.now c.requires.laid m c.index-all-imported.result (omega arith) c.index-all-imported.is in
    let both = c.if-not-may_be_image.ensures (bytes_on m (map active_segment_of c.args.segments.now)) (rw c.as_slice.ensures.value same) in
    ((λ f. absurd (false≢true f)), (λ all. both.1 (λ some. all c.memories.m _ (memory_at c.args.defined.now c.memories.m _ t) some)))

pub memories-preserved : goal.memories-preserved
memories-preserved c =
    let t = c.memories-test.true in
    let n = c.requires.laid.count in
    let k = length-map c.args.defined.now image_memory in
    let m = c.args.imported + c.memories.m in
    let same = laid_same c.args.imported (map image_memory c.args.defined.now) (map active_segment_of c.args.segments.now) c.args.all.now c.requires.laid m c.index-all-imported.result (omega arith) c.index-all-imported.is in
    let both = c.if-not-may_be_image.ensures (bytes_on m (map active_segment_of c.args.segments.now)) (rw c.as_slice.ensures.value same) in
    below_more _ c.memories.m c.memories.invariant (λ memory at.
    may_here (options_of c.args.settings) (map image_memory c.args.defined.now) c.memories.m _ memory _ (memory_at c.args.defined.now c.memories.m _ t) at (both.0 refl))

pub returns : goal.returns
returns c =
    let k = length-map c.args.defined.now image_memory in
    let t = c.memories-test.false in (
      (λ _ m memory at some. c.memories.invariant m (let l = slice_get_within (map image_memory c.args.defined.now) m memory at in omega arith) memory at some),
      (λ _. refl),
    )
