use Rattle.std.proofs.Common.{◌≡◌, ◌<◌, length, max, sym, subst, arith, rules}
use Rattle.std.specs.BinaryHeap.{heap_items}
use Rattle.memory_images.specs.Sweep.{AreWrittenBelow}
use Rattle.memory_images.proofs.Sweeping.{owns, idle, popped}
use Rattle.memory_images.proofs.sweep.advance.Goals as goal

pub returns-then-limit-start-clause-ranges : goal.returns-then-limit-start-clause-ranges
returns-then-limit-start-clause-ranges c =
    let inv = c.active.invariant in
    let top = c.in-Some.segment.now in
    let some : 0 < length (heap_items c.active.active) = search rules in
    let stop = c.min-stop.ensures in
    let wrote = c.in_ok-extend.ensures c.args.segments.now
    (λ place l u. owns c.args.segments.now c.args.from c.active.at c.args.limit (heap_items c.args.active.now) (heap_items c.active.active) inv.begun c.requires.active inv.kept inv.low
    top (0, some, sym c.in-Some.ensures.lookup) (c.in-Some.ensures.greatest inv.heap) place l (omega (arith, u, stop))) inv.ranges in
    let high = inv.high in
    let t = c.if-limit-start.true in
    let is : max c.active.at c.min-stop.result ≡ c.args.limit = omega (arith, stop, high, t) in
    subst (λ n. AreWrittenBelow c.args.segments.now n c.extend.new.ranges.items) is wrote

pub active-preserved : goal.active-preserved
active-preserved c =
    let inv = c.active.invariant in
    let top = c.in-Some.segment.now in
    let some : 0 < length (heap_items c.active.active) = search rules in
    let stop = c.min-stop.ensures in
    let at = c.max-at.ensures in
    let low = inv.low in
    let high = inv.high in
    let t = c.if-limit-start.false in
    let left = popped c.args.segments.now c.args.from c.active.at c.max-at.result (heap_items c.args.active.now) (heap_items c.active.active) (heap_items c.pop.new.self) top some c.in-Some.ensures.lookup
    inv.begun inv.kept (omega (arith, at)) (omega (arith, at, stop, t)) c.pop.result (search rules) c.pop.ensures.top c.pop.ensures.permutation in
    let wrote = c.in_ok-extend.ensures c.args.segments.now
    (λ place l u. owns c.args.segments.now c.args.from c.active.at c.args.limit (heap_items c.args.active.now) (heap_items c.active.active) inv.begun c.requires.active inv.kept inv.low
    top (0, some, sym c.in-Some.ensures.lookup) (c.in-Some.ensures.greatest inv.heap) place l (omega (arith, u, stop))) inv.ranges in
    record {
      low = omega (arith, low, at);
      high = omega (arith, high, at, stop);
      heap = search rules;
      begun = left.0;
      kept = left.1;
      ranges = subst (λ n. AreWrittenBelow c.args.segments.now n c.extend.new.ranges.items) (sym at) wrote;
    }

pub returns-clause-ranges : goal.returns-clause-ranges
returns-clause-ranges c =
    idle c.args.segments.now c.args.from c.active.at c.args.limit (heap_items c.args.active.now) (heap_items c.active.active) c.active.invariant.begun c.requires.active
    c.active.invariant.kept c.active.invariant.low c.active.ranges.items (search rules) c.active.invariant.high c.active.invariant.ranges
