use Rattle.std.proofs.Common.{arith, ◌≡◌, ◌∙◌, ◌++◌, ◌-◌, length, map, take, sym, ap}
use Rattle.std.proofs.lemmas.List.{length-map, length-append, take-append-le, take_all}
use Rattle.type_spec.specs.Interned.{GroupSpan}
use Rattle.wasm_index.specs.Index.{number_of}
use Rattle.type_registry.specs.Registry.{Module}
use Rattle.type_registry.specs.Changes.{canonical_data}
use Rattle.type_registry.proofs.FreeIndices.{free-length}
use Rattle.type_registry.proofs.planning.take_new.Goals.{In_ok-indices, After-deref-2}
use Rattle.type_registry.proofs.planning.take_new.Goals as goal

count : (c : In_ok-indices) → length c.in_ok-indices.indices.items ≡ c.args.end - c.args.start
count c = grind (arith, length-map, free-length)

whole : (c : After-deref-2) → map number_of c.deref-2.result.now ≡ c.args.listed.now.indices ++ map number_of c.deref.result.now
whole c = ap (map number_of) c.deref-2.ensures.value ∙ ap (λ (m : Module). m.indices) (c.listed.view_is ∙ c.in_ok-take.ensures)

pub take-requires-clause-few : goal.take-requires-clause-few
take-requires-clause-few c = omega (arith, ap length c.deref.ensures.value, count (goal.at.take-requires-clause-few c).In_ok-indices)

pub fresh_group-requires-clause-count : goal.fresh_group-requires-clause-count
fresh_group-requires-clause-count c = count (goal.at.fresh_group-requires-clause-count c).In_ok-indices

pub fresh_group-requires-clause-long : goal.fresh_group-requires-clause-long
fresh_group-requires-clause-long c =
    let at = goal.at.fresh_group-requires-clause-long c in
    let whole = whole at.After-deref-2 in
    let count = count at.In_ok-indices in
    grind (arith, length-append, length-map)

pub fresh_group-requires-clause-canonical : goal.fresh_group-requires-clause-canonical
fresh_group-requires-clause-canonical c =
    let s : GroupSpan = record { start = c.args.start; end = c.args.end } in
    let old = c.args.listed.now.indices in
    c.requires.canonical
    ∙ ap (λ is. canonical_data c.args.source.types.now is s) (sym (ap (take c.args.start) (whole (goal.at.fresh_group-requires-clause-canonical c).After-deref-2)
    ∙ take-append-le c.args.start old (map number_of c.deref.result.now) (omega (arith, c.requires.long)) ∙ take_all c.args.start old (omega (arith, c.requires.long))))

pub push-requires-clause-few : goal.push-requires-clause-few
push-requires-clause-few c = let count = count (goal.at.push-requires-clause-few c).In_ok-indices in grind (arith, length-map)
