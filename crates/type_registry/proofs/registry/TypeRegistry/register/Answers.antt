use Rattle.std.proofs.Common.{arith, ◌≡◌, ◌∙◌, ◌+◌, ◌<◌, ℕ, nat_eq, length, map, refl, sym, ap, subst}
use Rattle.std.specs.Map.{lookup}
use Rattle.std.proofs.lemmas.Option.{none-some}
use Rattle.module_types.specs.Views.{span_of}
use Rattle.type_registry.specs.contracts.registry.TypeRegistry as seen
use Rattle.type_registry.specs.Registry.{Groups, Registry, RegistryState, registry_of, index_at, indices_of}
use Rattle.type_registry.specs.Changes.{Plan, begun, planned, registered, with_module, keep_groups, count_groups}
use Rattle.type_registry.specs.Standing.{LiveWhereHeld, MayRegister}
use Rattle.type_registry.specs.Balanced.{IsBalanced}
use Rattle.type_registry.specs.Planning.{plan}
use Rattle.type_registry.specs.Counted.{counted}
use Rattle.type_registry.proofs.Balance.{live-held, registered-index}
use Rattle.type_registry.proofs.Keeping.{ok-is}
use Rattle.type_registry.proofs.PlannedLists.{registered-balanced}
use Rattle.type_registry.proofs.Registered.{registered-stands, others-stand}
use Rattle.type_registry.proofs.Counting.{counted-all}
use Rattle.type_registry.proofs.KeepingAll.{may-keep-all}
use Rattle.type_registry.proofs.Leaving.{counted-long}
use Rattle.type_registry.proofs.PlanGroups.{planned-new, new-may-keep, fresh-counted, counted-both, length-both}
use Rattle.type_registry.proofs.registry.TypeRegistry.register.Goals as goal

pub keep_planned-requires-clause-may : goal.keep_planned-requires-clause-may
keep_planned-requires-clause-may c = grind (arith, planned-new, may-keep-all, new-may-keep)

pub keep_planned-requires-clause-few : goal.keep_planned-requires-clause-few
keep_planned-requires-clause-few c = grind (arith, fresh-counted)

-- the registry afterwards
abbrev after : goal.After-self-2-1 → RegistryState
after c = record (seen.the_view c.self.inside) {
  registrations = c.self.inside.registrations + 1;
  modules = c.insert.new.self.entries;
  groups = c.keep_planned.new.groups.groups;
}

now-is : (c : goal.After-self-2-1) → registry_of (after c) ≡ registered (registry_of c.args.self.now) c.args.types.now
now-is c =
    let r = c.args.self.now in
    let p = planned (registry_of r) c.args.types.now in
    let whole : plan c.listed.inside.listed c.listed.inside.fresh ≡ p = c.listed.view_is ∙ c.in_ok-listed.ensures.ok in
    let done = ok-is c.insert.result (c.insert.ensures.succeeds (omega (arith, c.in_ok-reserve.ensures.ok))) c.insert.ensures.updates in
    let held : (k : ℕ) → lookup (nat_eq k) c.insert.new.self.entries ≡ with_module (registry_of r).held r.registrations p.listed k =
    λ k. grind (arith, done.0 k, c.reserve.ensures.entries.2 k) in
    let groups : c.keep_planned.new.groups.groups ≡ count_groups (keep_groups r.groups p.fresh) p.listed.groups =
    c.keep_planned.ensures
    ∙ ap (λ (gs : Groups). count_groups (keep_groups gs c.into_groups.result.items) c.listed.inside.listed.groups)
    (c.make_room.ensures.groups ∙ ap (λ (x : RegistryState). x.groups) c.self.view_is)
    ∙ ap (λ (es : Groups). count_groups (keep_groups r.groups es) c.listed.inside.listed.groups) (c.into_groups.ensures ∙ ap (λ (x : Plan). x.fresh) whole)
    ∙ ap (λ (x : Plan). count_groups (keep_groups r.groups p.fresh) x.listed.groups) whole in
    λ i. record { max_types = (c.self.view_is i).max_types; registrations = (c.self.view_is i).registrations + 1; held = λ k. held k i; groups = groups i }

before : (c : goal.After-self-2-1) → IsBalanced (registry_of c.args.self.now)
before c = subst (λ (r : RegistryState). IsBalanced (registry_of r)) c.self.view_is c.self.invariant.2

may : (c : goal.After-self-2-1) → MayRegister (registry_of c.args.self.now) c.args.types.now
may c = grind (arith, before)

balanced : (c : goal.After-self-2-1) → IsBalanced (registry_of (after c))
balanced c = rw (now-is c) (registered-balanced c.equality_law.ensures.group (registry_of c.args.self.now) c.args.types.now (may c) (before c))

pub invariant_of-self-2 : goal.invariant_of-self-2
invariant_of-self-2 c =
    let r = c.args.self.now in
    let l = c.args.types.now in
    let p = planned (registry_of r) l in
    let kept = keep_groups r.groups p.fresh in
    let now : c.keep_planned.new.groups.groups ≡ count_groups kept p.listed.groups = ap (λ (x : Registry). x.groups) (now-is c) in
    let most = ap (λ (x : RegistryState). x.max_types) c.self.view_is in
    let long = ap (λ (x : Groups). length (indices_of x)) now in
    let tally = ap counted now in
    let many = ap (λ (x : RegistryState). counted x.groups) c.self.view_is in
    let few : length p.listed.groups < 4294967296 = omega (arith, ap (λ (x : Plan). length x.listed.groups) c.in_ok-listed.ensures.ok, c.in_ok-listed.ensures.few) in
    let none = fresh-counted r.groups l begun (map span_of l.groups) refl in (
      omega (arith, counted-long kept p.listed.groups, length-both r.groups p.fresh, c.in_ok-listed.ensures.fits),
      c.self.invariant.1,
      balanced c,
      omega (arith, counted-all kept p.listed.groups, counted-both r.groups p.fresh, c.self.invariant.3),
    )

pub returns-clause-ok : goal.returns-clause-ok
returns-clause-ok c = now-is c

pub returns-clause-stands : goal.returns-clause-stands
returns-clause-stands c =
    let key : c.self.inside.registrations ≡ c.args.self.now.registrations = ap (λ (x : RegistryState). x.registrations) c.self.view_is in
    rw (now-is c, key) (registered-stands c.equality_law.ensures.group (registry_of c.args.self.now) c.args.types.now (may c))

pub returns-clause-others : goal.returns-clause-others
returns-clause-others c = λ k list st.
    let differ : k ≡ c.args.self.now.registrations → ⊥ = λ same. none-some st.listed (sym ((before c).unused k (omega (arith, same))) ∙ st.held) in
    rw (now-is c) (others-stand c.equality_law.ensures.group (registry_of c.args.self.now) c.args.types.now (may c) list k differ st)

pub returns-clause-indices : goal.returns-clause-indices
returns-clause-indices c = λ k i held.
    ap (λ (r : Registry). index_at r k i) (now-is c) ∙ registered-index (registry_of c.args.self.now) c.args.types.now (before c) k i held

pub returns-clause-live : goal.returns-clause-live
returns-clause-live c = live-held (registry_of (after c)) (balanced c)

-- a call that is refused does not change the registry

pub returns-then-self-clause-live : goal.returns-then-self-clause-live
returns-then-self-clause-live c =
    live-held (registry_of c.args.self.now) (subst (λ (r : RegistryState). IsBalanced (registry_of r)) c.self.view_is c.self.invariant.2)

pub returns-in_err-listed-clause-live : goal.returns-in_err-listed-clause-live
returns-in_err-listed-clause-live c =
    live-held (registry_of c.args.self.now) (subst (λ (r : RegistryState). IsBalanced (registry_of r)) c.self.view_is c.self.invariant.2)

pub returns-in_err-make_room-clause-live : goal.returns-in_err-make_room-clause-live
returns-in_err-make_room-clause-live c = rw c.make_room.ensures.groups (live-held (registry_of (seen.the_view c.self.inside)) c.self.invariant.2)

pub returns-in_err-reserve-clause-live : goal.returns-in_err-reserve-clause-live
returns-in_err-reserve-clause-live c =
    let s = seen.the_view c.self.inside in
    let same : registry_of (record s { modules = c.reserve.new.self.entries; groups = c.make_room.new.self.groups }) ≡ registry_of s =
    λ i. record (registry_of s) { held = λ k. c.reserve.ensures.entries.2 k i; groups = c.make_room.ensures.groups i } in
    subst LiveWhereHeld (sym same) (live-held (registry_of s) c.self.invariant.2)
