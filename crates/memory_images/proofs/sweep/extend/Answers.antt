use Rattle.std.proofs.Common.{◌≡◌, ◌-◌, ◌<◌, length, Some, refl, sym, ◌∙◌, ap, arith}
use Rattle.std.specs.Prelude.{slice_get, max}
use Rattle.std.proofs.lemmas.Option.{slice_get-get_or, slice_get_within}
use Rattle.memory_images.specs.declared.written.Written.{Written}
use Rattle.memory_images.proofs.Sweeping.{added, lengthened, read_at}
use Rattle.memory_images.proofs.sweep.extend.Goals.{else-count-gt0-via-then-count-gt0+then-index-start+else-index-segment, else-count-gt0-via-then-count-gt0+else-index-start, else-count-gt0-via-else-count-gt0}
use Rattle.memory_images.proofs.sweep.extend.Goals as goal

pub returns-then-index-segment : goal.returns-then-index-segment
returns-then-index-segment c = λ segments owner a.
    let items = c.args.ranges.now.items in
    let n = c.len-count.result - 1 in
    let last = c.index_mut.result.now in
    let len : c.len-count.result ≡ length items = c.len-count.ensures ∙ c.args.ranges.now.ok.0 in
    let some = c.if-end-start.false in
    let t = c.if-count-gt0.true in
    let limit : max c.args.start c.args.end ≡ c.args.end = omega (arith, some) in
    let within : n < length items = omega (arith, len, t) in
    let at : slice_get items n ≡ Some last = slice_get-get_or items n last within ∙ ap Some (sym c.index_mut.ensures.value) in
    let end : last.end ≡ c.args.start = sym (ap (λ (w : Written). w.end) (read_at items n c.index.result.now last within c.index.ensures at)) ∙ c.if-index-start.true in
    let segment : last.segment ≡ c.args.segment =
    sym (ap (λ (w : Written). w.segment) (read_at items n c.index-then-index-start.result.now last within c.index-then-index-start.ensures at)) ∙ c.if-index-segment.true in
    rw limit (lengthened segments c.args.start c.args.end some items _ refl (λ place l m. owner place l m ∙ ap Some (sym segment)) a last n (omega (arith, len, t))
    c.index_mut.ensures.value end refl refl)

pub returns : goal.returns
returns c = λ segments owner a.
    let items = c.args.ranges.now.items in
    let len : c.len-count.result ≡ length items = c.len-count.ensures ∙ c.args.ranges.now.ok.0 in
    let some = c.if-end-start.false in
    let limit : max c.args.start c.args.end ≡ c.args.end = omega (arith, some) in
    rw (limit, c.in_ok-push.ensures.items)
    (added segments c.args.start c.args.end some items _ refl owner a refl
    (λ last found touch same.
    let at : slice_get items (c.len-count.result - 1) ≡ Some last = rw len found in
    let l = slice_get_within items (c.len-count.result - 1) last at in
    elim c.else-count-gt0.branch [
      | else-count-gt0-via-then-count-gt0+then-index-start+else-index-segment w ↦ w.if-index-segment.false
          (ap (λ (w : Written). w.segment) (read_at items (c.len-count.result - 1) w.index-then-index-start.result.now last l w.index-then-index-start.ensures at) ∙ same)
      | else-count-gt0-via-then-count-gt0+else-index-start w ↦ w.if-index-start.false
          (ap (λ (w : Written). w.end) (read_at items (c.len-count.result - 1) w.index.result.now last l w.index.ensures at) ∙ touch)
      | else-count-gt0-via-else-count-gt0 w ↦ let f = w.if-count-gt0.false in omega (arith, l, len, f)
    ]))
