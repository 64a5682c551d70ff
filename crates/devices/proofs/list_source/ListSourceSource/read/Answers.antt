-- The slice source fills a part of the buffer, so the buffer is filled.
use Rattle.std.proofs.Common.{◌≤◌, length, take, min, arith}
use Rattle.std.proofs.lemmas.List.{length-take}
use Rattle.devices.proofs.Moves.{fill-part}
use Rattle.devices.proofs.list_source.ListSourceSource.read.Goals as goal

pub returns-clause-bytes : goal.returns-clause-bytes
returns-clause-bytes c =
    let most = c.min-most.result in
    let buffer = c.args.buf.now in
    let within : most ≤ length buffer = omega arith in
    let below : min (length (take most buffer)) (length c.self.inside.source) ≤ most = omega (arith, length-take most buffer) in
    rw (c.read.ensures.count, ← c.self.view_is) (fill-part _ most _ buffer _ below within (rw c.read.ensures.count at c.read.ensures.bytes))
