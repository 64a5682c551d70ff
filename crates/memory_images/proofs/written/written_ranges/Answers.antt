use Rattle.std.proofs.Common.{◌≡◌, length, vec_len, arith, rules}
use Rattle.std.specs.BinaryHeap.{heap_items}
use Rattle.memory_images.proofs.Sweeping.{acts, begun_more, kept_more, reached, rises, small, all_written}
use Rattle.memory_images.proofs.written.written_ranges.Goals as goal

pub advance-requires-clause-active : goal.advance-requires-clause-active
advance-requires-clause-active c =
    let inv = c.starts.invariant in
    let starts = c.in_ok-starts.starts.items in
    let first = c.index.result.now in
    acts c.args.segments.now starts c.in_ok-starts.ensures c.starts.i c.starts.at first.0 (heap_items c.starts.active) inv.kept
    (rises c.args.segments.now starts c.in_ok-starts.ensures c.starts.i c.starts.at first (search rules) c.index.ensures)

pub advance-requires-2-clause-upto : goal.advance-requires-2-clause-upto
advance-requires-2-clause-upto c = c.starts.invariant.high

pub advance-requires-2-clause-active : goal.advance-requires-2-clause-active
advance-requires-2-clause-active c =
    let t = c.starts-test.false in
    let n = c.len-i-end.ensures in
    let len : vec_len c.in_ok-starts.starts ≡ length c.in_ok-starts.starts.items = c.in_ok-starts.starts.ok.0 in
    acts c.args.segments.now c.in_ok-starts.starts.items c.in_ok-starts.ensures c.starts.i c.starts.at _ (heap_items c.starts.active) c.starts.invariant.kept
    (λ j ge l. absurd (omega (arith, ge, l, t, n, len)))

pub starts-preserved : goal.starts-preserved
starts-preserved c =
    let inv = c.starts.invariant in
    let t = c.starts-test.true in
    let starts = c.in_ok-starts.starts.items in
    let first = c.index.result.now in
    let done = c.in_ok-advance.ensures in
    let moved = c.in_ok-push.ensures.permutation in
    let up = reached c.args.segments.now starts c.in_ok-starts.ensures c.starts.i c.starts.at first (search rules) c.index.ensures inv.low in
    record {
      high = small c.args.segments.now starts c.in_ok-starts.ensures c.starts.i c.starts.at first (search rules) c.index.ensures c.requires;
      low = λ j ge l. rises c.args.segments.now starts c.in_ok-starts.ensures c.starts.i c.starts.at first (search rules) c.index.ensures j (omega arith) l;
      heap = c.in_ok-push.ensures.heap_order done.heap;
      begun = begun_more c.args.segments.now starts c.in_ok-starts.ensures c.starts.i c.starts.at first (search rules) c.index.ensures (heap_items c.starts.active) _ _ moved done.begun;
      kept = kept_more c.args.segments.now starts c.in_ok-starts.ensures c.starts.i c.starts.at first (search rules) c.index.ensures (heap_items c.starts.active) _ _ moved up inv.kept done.kept;
      ranges = done.ranges;
    }

pub returns : goal.returns
returns c = all_written c.args.segments.now c.advance-2.new.ranges.items c.requires c.in_ok-advance-2.ensures.ranges
