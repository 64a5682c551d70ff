use Rattle.std.proofs.Common.{arith, ◌≡◌, ◌∙◌, ◌++◌, length, map, take, ap}
use Rattle.std.proofs.lemmas.List.{length-map, length-take-le}
use Rattle.wasm_spec.specs.TypeData.{map_group}
use Rattle.type_spec.specs.Names.{named}
use Rattle.type_spec.specs.Interned.{GroupSpan}
use Rattle.wasm_index.specs.Index.{number_of}
use Rattle.wasm_types.specs.TypeViews.{group_of}
use Rattle.wasm_trace.specs.Canonical.{runtime_edge}
use Rattle.type_registry.specs.Changes.{given, members_of, IsGiven}
use Rattle.type_registry.proofs.UsedEdges.{used-types, used-engines}
use Rattle.type_registry.proofs.PlanGroups.{mapped-long}
use Rattle.type_registry.proofs.planning.fresh_group.Goals as goal

pub invariant_of-kept : goal.invariant_of-kept
invariant_of-kept c =
    let l = c.args.source.types.now in
    let s : GroupSpan = record { start = c.args.start; end = c.args.end } in
    let all = map number_of c.args.given.now in
    let before = take c.args.start all in
    let new = map number_of c.args.indices.items in
    let types = c.used-2.inside.types.items in
    let may = c.requires.may in
    let at : length before ≡ c.args.start =
    omega (arith, length-take-le c.args.start all (omega (arith, length-map c.args.given.now number_of, c.requires.long, may.some)), may.some) in
    let is = ap group_of c.used-2.view_is ∙ c.in_ok-used.ensures ∙ ap (λ is. map_group (named (runtime_edge (given is))) (runtime_edge (given is)) (group_of (members_of l s))) c.requires.given in
    let same = used-types before new s at l may.consed types c.args.canonical.value is c.requires.canonical in
    let long = mapped-long l s (runtime_edge (given (before ++ new))) types may.within is in
    let engines = used-engines (given (before ++ new)) (IsGiven s.end) (group_of (members_of l s)) types may.used is in
    (omega (arith, c.requires.count, may.some), same, omega (arith, long, c.requires.count), engines)
