-- What follows for a balanced registry, and that it is balanced once a module is released.
use Rattle.std.proofs.Common.{if◌then◌else◌, ◌≡◌, ◌∙◌, ◌<◌, ◌≤◌, ℕ, Bool, true, false, nat_eq, List, [], ◌∷◌, get_or, take, drop, slice_get, Contains, Option, Some, None, option_and_then, refl, sym, ap, arith, eq-eqb}
use Rattle.std.specs.Prelude.{IsSome}
use Rattle.std.specs.Cmp.{nat_eq_equiv}
use Rattle.std.specs.List.{list_any}
use Rattle.std.proofs.lemmas.Bool.{eqb-true, ne_eqb, cases_Bool, false_from_ne_true, eqb-false}
use Rattle.std.proofs.lemmas.Map.Views.{Contains-from_any, list_any-from_Contains}
use Rattle.std.proofs.lemmas.Option.{none-some}
use Rattle.std.proofs.lemmas.List.{take-append-drop}
use Rattle.type_spec.specs.Interned.{GroupSpan}
use Rattle.module_types.specs.TypeList.{TypeList}
use Rattle.type_registry.specs.Registry.{Registry, Group, Groups, Module, empty, index_at, indices_of, live}
use Rattle.type_registry.specs.Changes.{registered, released_by, size_of}
use Rattle.type_registry.specs.Standing.{AreOrdered, GroupStands, IsHeld, LiveWhereHeld, Stands, kept_at}
use Rattle.type_registry.specs.Balanced.{IsBalanced, count_in, indices_in, indices_at, times, times_below}
use Rattle.type_registry.proofs.KeepingAll.{true-false, any-second}
use Rattle.type_registry.proofs.NewGroups.{any-left, any-right}
use Rattle.type_registry.proofs.OwnerLists.{any-place, place-any}
use Rattle.type_registry.proofs.Sound.{bare, found, found-above, found-index, left-sound, none-sound}
use Rattle.type_registry.proofs.Tallies.{IsThere, there-of, left-less, left-had, left-was}
use Rattle.type_registry.proofs.Times.{below-one, below-some, below-without, flat-from, flat-has, flat-same}

-- ---- indices that are live

-- a kept group that has an index
record IsIn (gs : Groups) (i : ℕ) : Type 0 where
  pub first : ℕ
  pub group : Group
  pub kept : found gs first ≡ Some group
  pub has : list_any (nat_eq i) group.indices ≡ true

live-in : (gs : Groups) (i : ℕ) → AreOrdered gs → list_any (nat_eq i) (indices_of gs) ≡ true → IsIn gs i
live-in [] i ordered has = let no-way : false ≡ true = has in cc
live-in (e ∷ gs) i ordered has = by (list_any (nat_eq i) e.1.indices) refl (live-in gs i ordered.1) where
  by : (c : Bool) → list_any (nat_eq i) e.1.indices ≡ c → (list_any (nat_eq i) (indices_of gs) ≡ true → IsIn gs i) → IsIn (e ∷ gs) i
  by true is rest =
      record { first = e.0; group = e.1; kept = ap (λ (c : Bool). if c then Some e.1 else found gs e.0) (eq-eqb e.0 e.0 refl); has = is }
  by false is rest = grind (arith, any-second, found-above, ne_eqb)

-- a kept group whose indices are those at a first index
record IsOf (o : Option Group) (i : ℕ) : Type 0 where
  pub group : Group
  pub is : o ≡ Some group
  pub has : list_any (nat_eq i) group.indices ≡ true

of-any : (o : Option Group) (i : ℕ) → list_any (nat_eq i) (indices_in o) ≡ true → IsOf o i
of-any o i has = grind arith

-- a held module that has an index at a position
record IsAmong (r : Registry) (key place i : ℕ) : Type 0 where
  pub listed : Module
  pub held : r.held key ≡ Some listed
  pub at : slice_get listed.indices place ≡ Some i

among-of : (r : Registry) (key place i : ℕ) (o : Option Module) → r.held key ≡ o → option_and_then (λ (m : Module). slice_get m.indices place) o ≡ Some i
    → IsAmong r key place i
among-of r key place i o e at = grind arith

-- what a part of a list has the list has
any-take : (ns : List ℕ) (n i : ℕ) → list_any (nat_eq i) (take n ns) ≡ true → list_any (nat_eq i) ns ≡ true
any-take ns n i has = rw (take-append-drop n ns) at (any-left (take n ns) (drop n ns) i has)

any-drop : (ns : List ℕ) (n i : ℕ) → list_any (nat_eq i) (drop n ns) ≡ true → list_any (nat_eq i) ns ≡ true
any-drop ns n i has = rw (take-append-drop n ns) at (any-right (take n ns) (drop n ns) i has)

module _ (r : Registry) (b : IsBalanced r) where
  -- a kept group has an index of a held module, and its first index is among those of the module's
  -- groups
  record IsListed (m : Module) (i : ℕ) : Type 0 where
    pub first : ℕ
    pub group : Group
    pub kept : kept_at r first ≡ Some group
    pub has : list_any (nat_eq i) group.indices ≡ true
    pub is_in : 0 < times first m.groups

  listed-in : (key : ℕ) (m : Module) (i : ℕ) → r.held key ≡ Some m → list_any (nat_eq i) m.indices ≡ true → IsListed m i
  listed-in key m i is has = grind (arith, flat-from (indices_at r) m.groups i (ap (list_any (nat_eq i)) (sym (b.listed key m is)) ∙ has), of-any)

  -- a key that is held was given
  pub given-key : (key : ℕ) (m : Module) → r.held key ≡ Some m → key < r.registrations
  given-key key m is = let none = b.unused key in grind arith

  at-place : (key : ℕ) (m : Module) (place i : ℕ) → r.held key ≡ Some m → slice_get m.indices place ≡ Some i → index_at r key place ≡ Some i
  at-place key m place i is at = ap (option_and_then (λ (m : Module). slice_get m.indices place)) is ∙ at

  held-from : (i : ℕ) → Contains (live r) i → IsHeld r i
  held-from i has =
      let w = live-in r.groups i b.sound.ordered (list_any-from_Contains nat_eq_equiv i (live r) has) in
      let h = below-some r.held w.first r.registrations (omega (arith, b.counted w.first, ap count_in w.kept, b.had w.first w.group w.kept)) in
      let any = flat-has (indices_at r) h.listed.groups w.first i h.has (rw w.kept w.has) in
      let p = place-any h.listed.indices i (rw (b.listed h.key h.listed h.is) any) in
      record { key = h.key; place = p.place; at = at-place h.key h.listed p.place i h.is p.at }

  live-from : (i : ℕ) → IsHeld r i → Contains (live r) i
  live-from i h =
      let w = among-of r h.key h.place i (r.held h.key) refl h.at in
      let x = listed-in h.key w.listed i w.held (any-place w.listed.indices i h.place w.at) in
      let p = place-any x.group.indices i x.has in
      Contains-from_any eqb-true i (live r) (found-index r.groups x.first p.place i x.group x.kept p.at)

  pub live-held : LiveWhereHeld r
  live-held i = (held-from i, live-from i)

  -- a group that a held module has is kept
  pub kept-listed : (key : ℕ) (m : Module) (first : ℕ) → r.held key ≡ Some m → 0 < times first m.groups → IsThere (kept_at r first)
  kept-listed key m first is lt = there-of (kept_at r first) (omega (arith, b.counted first, below-one r.held key first r.registrations m is (given-key key m is), lt))

  -- the first index of a kept group is among those of the module's groups
  pub first-listed : (key : ℕ) (m : Module) (l : TypeList) (s : GroupSpan) → r.held key ≡ Some m → (g : GroupStands r m.indices l s)
      → 0 < times (get_or m.indices s.start 0) m.groups
  first-listed key m l s is g =
      let first = get_or m.indices s.start 0 in
      let start = b.sound.firsts first g.group g.kept in
      let part = rw g.at at (any-place g.group.indices first 0 start) in
      let x = listed-in key m first is (any-drop m.indices s.start first (any-take (drop s.start m.indices) (size_of s) first part)) in
      let p = place-any x.group.indices first x.has in
      grind (arith, x.is_in, b.sound.owned first x.first 0 p.place first g.group x.group g.kept x.kept start p.at)

-- ---- a module is released

module _ (r : Registry) (b : IsBalanced r) (key : ℕ) (m : Module) (is : r.held key ≡ Some m) where
  abbrev now : Registry
  now = released_by r key (Some m)

  still-held : (k : ℕ) (o : Module) → now.held k ≡ Some o → (k ≡ key → ⊥) × (r.held k ≡ Some o)
  still-held k o here = grind (arith, nat_eq, false_from_ne_true, none-some, eqb-false)

  counted-now : (first : ℕ) → count_in (kept_at now first) ≡ times_below now.held first r.registrations
  counted-now first = grind (arith, left-less, below-without, given-key)

  -- a group that is kept unchanged, except for its count
  record IsStill (first : ℕ) : Type 0 where
    pub group : Group
    pub kept : kept_at now first ≡ Some group
    pub old : Group
    pub was : kept_at r first ≡ Some old
    pub same : bare old ≡ bare group

  still-kept : (k : ℕ) (o : Module) (first : ℕ) → now.held k ≡ Some o → 0 < times first o.groups → IsStill first
  still-kept k o first here lt =
      let old = still-held k o here in
      let w = there-of (kept_at now first)
      (omega (arith, counted-now first, below-one now.held k first r.registrations o here (given-key r b k o old.1), lt)) in
      grind (arith, left-was r.groups m.groups first w.group b.sound.ordered w.is)

  still-indices : (k : ℕ) (o : Module) (first : ℕ) → now.held k ≡ Some o → 0 < times first o.groups → indices_at r first ≡ indices_at now first
  still-indices k o first here lt = grind (arith, still-kept k o first here lt)

  no-more-held : (c : Bool) (k : ℕ) → r.registrations ≤ k → (if c then None else r.held k) ≡ None
  no-more-held c k le = let none = b.unused k le in let any = cases_Bool c in grind arith

  pub left-balanced : IsBalanced now
  left-balanced = record {
    sound = left-sound r.groups m.groups b.sound;
    unused = λ k le. no-more-held (nat_eq key k) k le;
    counted = counted-now;
    had = left-had r.groups m.groups b.sound.ordered b.had;
    listed = λ k o here. b.listed k o (still-held k o here).1 ∙ flat-same (indices_at r) (indices_at now) o.groups (λ n lt. still-indices k o n here lt);
  }

  pub left-stands : (k : ℕ) (l : TypeList) → (k ≡ key → ⊥) → Stands r k l → Stands now k l
  left-stands k l differ st =
      let here : now.held k ≡ Some st.listed =
      ap (λ (c : Bool). if c then None else r.held k) (ne_eqb key k (λ e. differ (sym e))) ∙ st.held in
      record {
        sound = left-balanced.sound;
        listed = st.listed;
        held = here;
        count = st.count;
        groups = λ j s at.
            let g = st.groups j s at in
            let w = still-kept k st.listed (get_or st.listed.indices s.start 0) here (first-listed r b k st.listed l s st.held g) in
            grind arith;
      }

-- ---- indices of other modules

pub left-index : (r : Registry) (key : ℕ) (m : Module) (k i : ℕ) → (k ≡ key → ⊥) → index_at (released_by r key (Some m)) k i ≡ index_at r k i
left-index r key m k i differ = ap (λ (c : Bool). option_and_then (λ (o : Module). slice_get o.indices i) (if c then None else r.held k)) (ne_eqb key k (λ e. differ (sym e)))

pub registered-index : (r : Registry) (l : TypeList) → IsBalanced r → (k i : ℕ) → IsSome (r.held k) → index_at (registered r l) k i ≡ index_at r k i
registered-index r l b k i held = grind (arith, true-false, option_and_then, slice_get, ne_eqb)

pub released-balanced : (r : Registry) (key : ℕ) (o : Option Module) → r.held key ≡ o → IsBalanced r → IsBalanced (released_by r key o)
released-balanced r key o e b = grind (arith, left-balanced)

pub released-stands : (r : Registry) (key : ℕ) (o : Option Module) → r.held key ≡ o → IsBalanced r → (k : ℕ) (l : TypeList) → (k ≡ key → ⊥) → Stands r k l
    → Stands (released_by r key o) k l
released-stands r key o e b k l differ st = grind (arith, left-stands)

pub empty-balanced : (n : ℕ) → IsBalanced (empty n)
empty-balanced n = grind (arith, none-sound, none-some)
