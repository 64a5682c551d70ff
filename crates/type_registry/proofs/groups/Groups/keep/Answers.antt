use Rattle.std.proofs.Common.{arith, ◌≡◌, ◌∙◌, ◌+◌, length, map, cond, Some, ap}
use Rattle.std.proofs.lemmas.List.{length-map}
use Rattle.std.proofs.lemmas.Option.{get_or_from_slice_get}
use Rattle.wasm_index.specs.Index.{number_of}
use Rattle.type_registry.specs.Registry.{Group}
use Rattle.type_registry.specs.Owners.{free_count, owned_by}
use Rattle.type_registry.specs.Keeping.{Shared, shared_content, first_of}
use Rattle.type_registry.proofs.Keeping.{Eq, keep-at, kept-with, ok-is}
use Rattle.type_registry.proofs.NewGroups.{is-new, unknown}
use Rattle.type_registry.proofs.groups.Groups.keep.Goals as goal

pub index_mut-requires : goal.index_mut-requires
index_mut-requires c = omega (arith, ap (λ s. s.room) c.self.view_is, c.requires.new.room 0 c.first-first.result c.first-first.ensures, c.self.inside.kept.ok)

pub invariant_of-self : goal.invariant_of-self
invariant_of-self c =
    let live = c.self.inside.live in
    let os = c.self.inside.owners.items in
    let g = c.args.group in
    let f = c.first-first.result in
    let known = first_of c.self.inside.known in
    let known' = first_of c.insert.new.self in
    let equal = c.equality_law.ensures.group in
    let seen = ap (λ s. s.groups) c.self.view_is in
    let room = ap (λ s. s.room) c.self.view_is in
    let done = ok-is c.insert.result (c.insert.ensures.succeeds (omega (arith, ap (λ s. s.spare) c.self.view_is, c.requires.new.spare))) c.insert.ensures.updates in
    let learns : (q : Shared) → known' q ≡ cond (Eq g.canonical (shared_content q)) (Some f) (known q) =
    λ q. done.0 q ∙ ap (λ x. cond (Eq x (shared_content q)) (Some f) (known q)) c.requires.name in
    let indices : map number_of c.group.inside.indices.items ≡ g.indices = ap (λ (h : Group). h.indices) c.group.view_is in
    let owners : c.take_all.new.owners.items ≡ owned_by f 0 os g.indices =
    c.take_all.ensures.owners ∙ ap (λ ns. owned_by f 0 os (map number_of ns)) c.deref.ensures.value ∙ ap (owned_by f 0 os) indices in
    let size : live + length g.indices ≡ live + c.len.result =
    omega (arith, ap length indices, length-map c.group.inside.indices.items number_of, c.group.inside.indices.ok, c.len.ensures) in
    rw (← size, owners) (kept-with (live + length g.indices) known' c.self.invariant (is-new c.self.invariant equal seen room c.first-first.ensures c.requires.new) equal
    (unknown c.self.invariant equal seen room c.first-first.ensures c.requires.new) learns (omega arith) (c.take_all.ensures.free ∙ ap (map free_count) owners))

pub returns-clause-groups : goal.returns-clause-groups
returns-clause-groups c =
    let seen = ap (λ s. s.groups) c.self.view_is in
    let new = is-new c.self.invariant c.equality_law.ensures.group seen (ap (λ s. s.room) c.self.view_is) c.first-first.ensures c.requires.new in
    grind (arith, keep-at, get_or_from_slice_get)
