use Rattle.std.proofs.Common.{◌≡◌, ◌∙◌, ◌<◌, ◌+◌, length, map, take, get_or, ap, refl, arith}
use Rattle.std.proofs.lemmas.List.{map_more, length-map, length-take-le}
use Rattle.wasm_index.specs.Index.{number_of}
use Rattle.type_registry.proofs.Keeping.{owned-push}
use Rattle.type_registry.proofs.owners.take_all.Goals as goal

pub loop-place-preserved : goal.loop-place-preserved
loop-place-preserved c =
    let is = c.args.indices.now in
    let k = c.loop-place.place in
    let lt : k < length is = omega (arith, c.loop-place-test.true, c.loop-place.auto.place-end) in
    let y = number_of (get_or is k c.index-indices-place.result) in
    let ys = map number_of (take k is) in
    let size : k ≡ 0 + length ys = omega (arith, length-map (take k is) number_of, length-take-le k is (omega (arith, lt))) in
    let here : c.index.result ≡ y = c.index.ensures.number ∙ ap number_of c.index-indices-place.is in
    let more = map_more number_of is k c.index-indices-place.result lt in
    let last = owned-push c.args.first 0 c.args.owners.now.items ys y in
    record { owners = rw (c.set_owner.ensures.owners, here, c.loop-place.invariant.owners, more, last, ← size) refl; free = c.set_owner.ensures.free }
