use Rattle.std.proofs.Common.{◌∙◌, map, length, ap, sym, arith}
use Rattle.std.proofs.lemmas.Bool.{false≢true}
use Rattle.init_plan.specs.Views.{processed_of, planned_segment_of}
use Rattle.plan_run.proofs.Tested.{below-on, below-back}
use Rattle.plan_run.proofs.finished.memories_are_finished.Goals as goal

pub returns-then-not-segments_are_within : goal.returns-then-not-segments_are_within
returns-then-not-segments_are_within c =
    let is = ap processed_of c.in-Processed.is ∙ ap (map planned_segment_of) (sym c.deref.ensures.value) in (
      λ e. absurd (false≢true e),
      λ f. absurd (false≢true (sym c.if-not-segments_are_within.true
          ∙ c.segments_are_within.ensures.1 (below-back c.deref.result.now (processed_of c.args.translation.now.memory_init) is _ (rw c.as_slice-memories.ensures f.segments)))),
    )

pub returns : goal.returns
returns c =
    let is = ap processed_of c.in-Processed.is ∙ ap (map planned_segment_of) (sym c.deref.ensures.value) in
    let count = ap length c.as_slice-memories.ensures in
    let page = c.page_size.ensures in (
      λ e. record {
        processed = rw c.in-Processed.is tt;
        imports = omega arith;
        page_sizes = rw c.as_slice-memories.ensures at (c.have_page_sizes.ensures.0 c.if-not-have_page_sizes.false);
        page = omega arith;
        segments = rw count at (below-on c.deref.result.now (processed_of c.args.translation.now.memory_init) is (length c.as_slice-memories.result.now) (c.segments_are_within.ensures.0 c.if-not-segments_are_within.false));
        images = c.images_fit.ensures.0 e;
      },
      λ f. c.images_fit.ensures.1 f.images,
    )
