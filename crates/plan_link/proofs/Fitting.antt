-- How many types are live once a module is registered.
use Rattle.std.proofs.Common.{◌≡◌, ◌≤◌, ◌+◌, ℕ, List, [], ◌∷◌, length, map, inl, inr, refl, arith}
use Rattle.std.proofs.lemmas.List.{length-map}
use Rattle.type_spec.specs.Interned.{GroupSpan}
use Rattle.module_types.specs.Orderly.{LieBetween}
use Rattle.module_types.specs.TypeList.{TypeList}
use Rattle.module_types.specs.Views.{span_of, interned_of}
use Rattle.type_registry.specs.declared.error.RegistryError.{RegistryError}
use Rattle.type_registry.specs.declared.error.RegistryError.TheVariants as refused
use Rattle.type_registry.specs.Changes.{Plan, begun, plan_group, plan_groups, planned, fresh, registered, size_of, canonical_of, keep_groups, IsFull}
use Rattle.module_types.specs.Listed.{Listed, list_of}
use Rattle.type_registry.specs.Registry.{Registry, Groups, indices_of, live}
use Rattle.type_registry.proofs.Leaving.{counted-long}
use Rattle.type_registry.proofs.PlanGroups.{next-length, length-both, either-planned}
use Rattle.plan_link.specs.Registering.{HasRoom}

abbrev members : Plan → ℕ
members p = length (indices_of p.fresh)

-- a group adds its own types at most
group-adds : (gs : Groups) (l : TypeList) (p : Plan) (s : GroupSpan) → members (plan_group gs l p s) ≤ members p + size_of s
group-adds gs l p s =
    either-planned gs l p s (λ q. members q ≤ members p + size_of s) (λ g is. omega arith)
    (λ none. omega (arith, next-length gs p.fresh (canonical_of l p.listed.indices s) (size_of s)))

groups-add : (gs : Groups) (l : TypeList) (p : Plan) (ss : List GroupSpan) (first end : ℕ) → LieBetween first ss end
    → members (plan_groups gs l p ss) + first ≤ members p + end
groups-add gs l p [] first end lie = omega (arith, lie)
groups-add gs l p (s ∷ ss) first end lie =
    omega (arith, group-adds gs l p s, groups-add gs l (plan_group gs l p s) ss s.end end lie.2, lie.0, lie.1)

fresh-few : (r : Registry) (l : TypeList) → Listed l → fresh r l ≤ length l.types
fresh-few r l listed =
    let added = groups-add r.groups l begun (map span_of l.groups) 0 (length (list_of l).types) listed.well_named.orderly in
    omega (arith, added, length-map l.types interned_of)

pub live-few : (r : Registry) (l : TypeList) → Listed l → length (live (registered r l)) ≤ length (live r) + length l.types
live-few r l listed =
    let p = planned r l in
    omega (arith, fresh-few r l listed, counted-long (keep_groups r.groups p.fresh) p.listed.groups, length-both r.groups p.fresh)

-- a registry that has capacity left is not full
pub not-full : (r : Registry) (l : TypeList) → Listed l → HasRoom r (length l.types) → IsFull r l → ⊥
not-full r l listed room (inl many) = absurd (omega (arith, many, fresh-few r l listed, room.types))
not-full r l listed room (inr last) = absurd (omega (arith, last, room.key))

pub only-memory : (e : RegistryError) → (e ≡ refused.Full → ⊥) → (e ≡ refused.NotHeld → ⊥) → e ≡ refused.OutOfMemory
only-memory refused.Full full held = absurd (full refl)
only-memory refused.NotHeld full held = absurd (held refl)
only-memory refused.OutOfMemory full held = refl
