-- A registry is balanced once a module is registered.
use Rattle.std.proofs.Common.{if◌then◌else◌, ◌≡◌, ◌∙◌, ◌↔◌, ◌<◌, ◌≤◌, ℕ, ◌+◌, Bool, true, false, nat_eq, List, [], ◌∷◌, ◌++◌, map, Option, Some, refl, arith, eq-eqb}
use Rattle.std.specs.List.{flat_map}
use Rattle.std.proofs.lemmas.Grind.{flat_map-append, common_steps}
use Rattle.std.proofs.lemmas.List.{append-nil, append_assoc}
use Rattle.std.proofs.lemmas.Option.{get_or_from_slice_get, same_Some}
use Rattle.std.proofs.lemmas.Bool.{eqb-true, ne_eqb}
use Rattle.type_spec.specs.Interned.{GroupSpan}
use Rattle.wasm_types.specs.declared.sub.WasmSubType.{WasmSubType}
use Rattle.module_types.specs.Views.{span_of}
use Rattle.module_types.specs.TypeList.{TypeList}
use Rattle.type_registry.specs.Registry.{Registry, Group, Groups, Module}
use Rattle.type_registry.specs.Changes.{Plan, begun, canonical_of, find_group, first_index, keep_groups, next_group, plan_group, plan_groups, planned, registered, size_of, with_group}
use Rattle.type_registry.specs.Standing.{MayRegister, kept_at}
use Rattle.type_registry.specs.Balanced.{IsBalanced, count_in, indices_in, indices_at, times, times_below}
use Rattle.type_registry.proofs.Balance.{kept-listed}
use Rattle.type_registry.proofs.Keeping.{Eq}
use Rattle.type_registry.proofs.PlanGroups.{found-equal, find-some, find-none, fresh-counted, either-planned}
use Rattle.type_registry.proofs.Registered.{state, may, new-first, kept-of, registered-sound}
use Rattle.type_registry.proofs.Sound.{found, counted-is, counted-was, keeps-found}
use Rattle.type_registry.proofs.Tallies.{IsThere, counted-more, firsts_of, keep-none, kept-was}
use Rattle.type_registry.proofs.Times.{below-next, below-with, flat-same, times-append}

-- ---- the list of a module that is planned

-- its indices are those of its groups, which are all kept
record IsListedBy (at : ℕ → Option Group) (m : Module) : Type 0 where
  pub indices : m.indices ≡ flat_map (λ first. indices_in (at first)) m.groups
  pub there : (first : ℕ) → 0 < times first m.groups → IsThere (at first)

none-listed : (at : ℕ → Option Group) → IsListedBy at begun.listed
none-listed at = record { indices = refl; there = λ first lt. absurd (omega (arith, lt)) }

listed-more : (at : ℕ → Option Group) (m : Module) (g : Group) → at (first_index g) ≡ Some g → IsListedBy at m → IsListedBy at (with_group m g)
listed-more at m g is w = grind (arith, append-nil, flat_map-append, nat_eq, times-append, eqb-true)

module _ (equal : (x y : List WasmSubType) → (Eq x y ≡ true) ↔ (x ≡ y)) (gs : Groups) (l : TypeList) where
  -- a group that is found remains so where more groups are planned
  found-next : (p : Plan) (s : GroupSpan) (c : List WasmSubType) (g : Group) → find_group c (gs ++ p.fresh) ≡ Some g
      → find_group c (gs ++ (plan_group gs l p s).fresh) ≡ Some g
  found-next p s c g is = grind (arith, either-planned, append_assoc, find-some)

  found-later : (p : Plan) (ss : List GroupSpan) (c : List WasmSubType) (g : Group) → find_group c (gs ++ p.fresh) ≡ Some g
      → find_group c (gs ++ (plan_groups gs l p ss).fresh) ≡ Some g
  found-later p [] c g is = is
  found-later p (s ∷ ss) c g is = found-later (plan_group gs l p s) ss c g (found-next p s c g is)

  -- a group that a module takes, which is found by its members from then on
  record IsTaken (m n : Module) (es : Groups) : Type 0 where
    pub group : Group
    pub listed : n ≡ with_group m group
    pub among : find_group group.canonical (gs ++ es) ≡ Some group

  is-taken : (p : Plan) (s : GroupSpan) → IsTaken p.listed (plan_group gs l p s).listed (plan_group gs l p s).fresh
  is-taken p s =
      let c = canonical_of l p.listed.indices s in
      either-planned gs l p s (λ q. IsTaken p.listed q.listed q.fresh)
      (λ g is. grind (arith, found-equal (gs ++ p.fresh) c g is))
      (λ none. record { group = next_group gs p.fresh c (size_of s); listed = refl; among = grind (arith, append_assoc, find-none) })

  -- the list is that of its groups where each group that is found is kept at its first index
  planned-listed : (at : ℕ → Option Group) (p : Plan) (ss : List GroupSpan)
      → ((g : Group) → find_group g.canonical (gs ++ (plan_groups gs l p ss).fresh) ≡ Some g → at (first_index g) ≡ Some g)
      → IsListedBy at p.listed → IsListedBy at (plan_groups gs l p ss).listed
  planned-listed at p [] kept w = w
  planned-listed at p (s ∷ ss) kept w =
      let t = is-taken p s in
      let q = plan_group gs l p s in
      let is = kept t.group (found-later q ss t.group.canonical t.group t.among) in
      planned-listed at q ss kept (rw t.listed (listed-more at p.listed t.group is w))

  -- each new group is one of the module's
  new-listed : (p : Plan) (s : GroupSpan) (first : ℕ) → times first (firsts_of p.fresh) ≤ times first p.listed.groups
      → times first (firsts_of (plan_group gs l p s).fresh) ≤ times first (plan_group gs l p s).listed.groups
  new-listed p s first le = grind (arith, common_steps, times-append, either-planned)

  pub all-listed : (p : Plan) (ss : List GroupSpan) (first : ℕ) → times first (firsts_of p.fresh) ≤ times first p.listed.groups
      → times first (firsts_of (plan_groups gs l p ss).fresh) ≤ times first (plan_groups gs l p ss).listed.groups
  all-listed p [] first le = le
  all-listed p (s ∷ ss) first le = all-listed (plan_group gs l p s) ss first (new-listed p s first le)

-- ---- the registry

module _ (equal : (x y : List WasmSubType) → (Eq x y ≡ true) ↔ (x ≡ y)) (r : Registry) (l : TypeList) (m : MayRegister r l) (b : IsBalanced r) where
  abbrev p : Plan
  p = planned r l

  abbrev kept : Groups
  kept = keep_groups r.groups p.fresh

  abbrev now : Registry
  now = registered r l

  -- a group that is found is kept at its first index
  kept-first : (g : Group) → find_group g.canonical (r.groups ++ p.fresh) ≡ Some g → found kept (first_index g) ≡ Some g
  kept-first g is = grind (arith, kept-of equal r l m g is, get_or_from_slice_get)

  listed-by : IsListedBy (found kept) p.listed
  listed-by = planned-listed equal r.groups l (found kept) begun (map span_of l.groups) kept-first (none-listed (found kept))

  -- what is kept is kept once groups are counted, except for its count
  same-indices : (first : ℕ) (g : Group) → found kept first ≡ Some g → indices_in (found kept first) ≡ indices_at now first
  same-indices first g is = grind (arith, counted-is kept p.listed.groups first g is)

  listed-new : p.listed.indices ≡ flat_map (indices_at now) p.listed.groups
  listed-new = grind (arith, listed-by, flat-same, found, same-indices)

  still : (first : ℕ) (g : Group) → kept_at r first ≡ Some g → found kept first ≡ Some g
  still first g is = keeps-found equal p.fresh (state equal r l m) first g m.sound (may equal r l m) (new-first equal r l m) is

  -- new groups are not counted yet
  count-kept : (first : ℕ) → count_in (found kept first) ≡ count_in (kept_at r first)
  count-kept first = grind (arith, found, still, keep-none, fresh-counted)

  counted-now : (first : ℕ) → count_in (kept_at now first) ≡ times_below now.held first (r.registrations + 1)
  counted-now first = grind (arith, eq-eqb, counted-more, listed-by, count-kept, below-next, below-with)

  had-now : (first : ℕ) (g : Group) → kept_at now first ≡ Some g → 0 < g.count
  had-now first g is = grind (
    arith,
    kept-was,
    b.had,
    count-kept first,
    counted-was kept p.listed.groups first g is,
    counted-more kept p.listed.groups first listed-by.there,
    all-listed equal r.groups l begun (map span_of l.groups) first (omega arith),
  )

  listed-now : (key : ℕ) (n : Module) → now.held key ≡ Some n → n.indices ≡ flat_map (indices_at now) n.groups
  listed-now key n is = by (nat_eq r.registrations key) is where
    by : (c : Bool) → (if c then Some p.listed else r.held key) ≡ Some n → n.indices ≡ flat_map (indices_at now) n.groups
    by true is = rw (← same_Some p.listed n is) listed-new
    by false is = b.listed key n is ∙ flat-same (indices_at r) (indices_at now) n.groups (λ first lt. grind (arith, kept-listed r b key n first is lt, still, same-indices))

  pub registered-balanced : IsBalanced now
  registered-balanced = grind (arith, registered-sound, ne_eqb, counted-now, had-now, listed-now)
