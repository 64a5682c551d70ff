use Rattle.std.proofs.Common.{◌≡◌, length, vec_len, refl, arith}
use Rattle.memory_images.proofs.Filling.{over, beside}
use Rattle.memory_images.proofs.fill.write_segment.Goals as goal

pub returns-then-from-to-clause-bytes : goal.returns-then-from-to-clause-bytes
returns-then-from-to-clause-bytes c =
    let old = c.args.bytes.now.items in
    let lent = c.deref_mut.ensures.value in
    let piece = c.copy_from_slice.ensures.after in
    let len : vec_len c.args.bytes.now ≡ length old = c.args.bytes.now.ok.0 in
    let s = c.saturating_add-end.ensures in
    let k = c.len.ensures in
    let to_is = c.min-to.ensures in
    rw (lent, piece, c.args.bytes.now.ok.0)
    (over c.args.x.now c.args.start c.max-from.result c.min-to.result old _ (omega arith) c.if-from-to.true (omega arith) (omega arith) (omega arith) refl _
    refl c.max-from.ensures (omega arith))

pub returns-else-from-to-clause-bytes : goal.returns-else-from-to-clause-bytes
returns-else-from-to-clause-bytes c =
    let len : vec_len c.args.bytes.now ≡ length c.args.bytes.now.items = c.args.bytes.now.ok.0 in
    beside c.args.x.now c.args.start c.args.bytes.now.items
    (let s = c.saturating_add-end.ensures in let k = c.len.ensures in let t = c.min-to.ensures in let f = c.max-from.ensures in let n = c.if-from-to.false in omega (arith, s, k, t, f, n, len, c.requires))
