use Rattle.std.proofs.Common.{◌≡◌, ◌∙◌, map, take, get_or, ap, refl}
use Rattle.std.proofs.lemmas.List.{map_more}
use Rattle.wasm_index.specs.Index.{number_of}
use Rattle.type_registry.proofs.OwnerLists.{emptied-push}
use Rattle.type_registry.proofs.owners.give_back.Goals as goal

pub loop-index-preserved : goal.loop-index-preserved
loop-index-preserved c =
    let is = c.args.indices.now in
    let k = c.loop-index.index-index in
    let y = number_of (get_or is k c.index-item.result) in
    let here : c.index.result ≡ y = c.index.ensures.number ∙ ap number_of c.index-item.is in
    let more = map_more number_of is k c.index-item.result c.loop-index-test.true in
    let last = emptied-push c.args.owners.now.items (map number_of (take k is)) y in
    record { owners = rw (c.set_owner.ensures.owners, here, c.loop-index.invariant.owners, more, last) refl; free = c.set_owner.ensures.free }
