use Rattle.std.proofs.Common.{arith, ◌≡◌, ◌∙◌, ◌++◌, ◌-◌, length, map, Some, None, sym, ap}
use Rattle.std.proofs.lemmas.List.{length-append}
use Rattle.std.specs.Option.{option_copied}
use Rattle.type_spec.specs.Interned.{GroupSpan}
use Rattle.wasm_index.specs.Index.{number_of}
use Rattle.wasm_trace.specs.Canonical.{consed_edge}
use Rattle.wasm_types.specs.TypeViews.{group_of}
use Rattle.type_registry.specs.Registry.{Module}
use Rattle.type_registry.specs.Changes.{canonical_data, canonical_of, find_group, given as given_by}
use Rattle.type_registry.proofs.FreeIndices.{free-length}
use Rattle.type_registry.proofs.PlanGroups.{mapped-long, found-equal, known-group, unknown-group, next-length, none-second}
use Rattle.type_registry.proofs.planning.take_group.Goals.{In_ok-canonical, In-Some, In_default}
use Rattle.type_registry.proofs.planning.take_group.Goals as goal

abbrev span : In_ok-canonical → GroupSpan
span c = record { start = c.args.start; end = c.args.end }

given : (c : In_ok-canonical) → map number_of c.deref.result.now ≡ c.args.listed.now.indices
given c = ap (map number_of) c.deref.ensures.value ∙ ap (λ (m : Module). m.indices) c.listed.view_is

form : (c : In_ok-canonical) → group_of c.in_ok-canonical.canonical.value ≡ canonical_data c.args.source.types.now c.args.listed.now.indices (span c)
form c = c.in_ok-canonical.ensures.form ∙ ap (λ is. canonical_data c.args.source.types.now is (span c)) (given c)

is : (c : In_ok-canonical) → c.in_ok-canonical.canonical.value ≡ canonical_of c.args.source.types.now c.args.listed.now.indices (span c)
is c = c.in_ok-canonical.ensures.canonical ∙ ap (λ is. canonical_of c.args.source.types.now is (span c)) (given c)

long : (c : In_ok-canonical) → length c.in_ok-canonical.canonical.value ≡ c.args.end - c.args.start
long c = mapped-long c.args.source.types.now (span c) (consed_edge (given_by c.args.listed.now.indices) c.args.start) c.in_ok-canonical.canonical.value c.requires.may.within (form c)

found : (c : In-Some) → find_group c.in_ok-canonical.canonical.value (c.args.source.groups.now.groups ++ c.args.fresh.now) ≡ Some c.in-Some.group.now
found c = sym c.find_equal.ensures ∙ ap option_copied c.in-Some.is

equal : (c : In-Some) → c.in-Some.group.now.canonical ≡ c.in_ok-canonical.canonical.value
equal c =
    (c.equality_law.ensures.group _ _).0
    (found-equal (c.args.source.groups.now.groups ++ c.args.fresh.now) c.in_ok-canonical.canonical.value c.in-Some.group.now (found c))

none : (c : In_default) → find_group c.in_ok-canonical.canonical.value (c.args.source.groups.now.groups ++ c.args.fresh.now) ≡ None
none c = sym c.find_equal.ensures ∙ ap option_copied c.in_default.is

pub join-requires : goal.join-requires
join-requires c = let at = goal.at.join-requires c in omega (arith, long at.In_ok-canonical, ap length (equal at.In-Some))

pub returns-in-Some-clause-ok : goal.returns-in-Some-clause-ok
returns-in-Some-clause-ok c =
    let at = goal.at.returns-in-Some-clause-ok c in
    let is = is at.In_ok-canonical in
    let found = found at.In-Some in
    grind (arith, known-group)

pub returns-in-Some-clause-long : goal.returns-in-Some-clause-long
returns-in-Some-clause-long c = let at = goal.at.returns-in-Some-clause-long c in omega (arith, c.in_ok-join.ensures.long, long at.In_ok-canonical, ap length (equal at.In-Some))

pub returns-then-end-start-clause-full : goal.returns-then-end-start-clause-full
returns-then-end-start-clause-full c =
    let at = goal.at.returns-then-end-start-clause-full c in
    let is = is at.In_ok-canonical in
    let none = none at.In_default in
    grind (arith, unknown-group, next-length)

pub take_new-requires-clause-canonical : goal.take_new-requires-clause-canonical
take_new-requires-clause-canonical c = form (goal.at.take_new-requires-clause-canonical c).In_ok-canonical

pub take_new-requires-clause-unknown : goal.take_new-requires-clause-unknown
take_new-requires-clause-unknown c = let none = none (goal.at.take_new-requires-clause-unknown c).In_default in grind (arith, none-second)

pub returns-clause-ok : goal.returns-clause-ok
returns-clause-ok c =
    let at = goal.at.returns-clause-ok c in
    let is = is at.In_ok-canonical in
    let none = none at.In_default in
    grind (arith, unknown-group)

pub returns-clause-long : goal.returns-clause-long
returns-clause-long c = grind (arith, length-append, free-length)

pub returns-clause-fits : goal.returns-clause-fits
returns-clause-fits c = grind (arith, next-length)
