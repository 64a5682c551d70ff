use Rattle.std.proofs.Common.{◌+◌, ◌<◌, length, sym, ◌∙◌, arith}
use Rattle.memory_images.proofs.Filling.{contents_more}
use Rattle.memory_images.proofs.fill.filled.Goals as goal

pub laid-preserved : goal.laid-preserved
laid-preserved c =
    let inv = c.laid.invariant in
    let laid = c.write_segment.ensures in
    record {
      len = laid.len ∙ inv.len;
      filled = λ i l.
          let n = laid.len in
          let within : i < length c.laid.bytes.items = omega (arith, n, l) in
          (rw (inv.filled i within) at (laid.bytes i within)) ∙ sym (contents_more c.args.laid.now c.laid.x-index (c.args.span.start + i) _ c.laid-test.true);
    }
