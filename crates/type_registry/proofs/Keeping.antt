-- What is kept remains so where a new group is kept.
use Rattle.std.proofs.Common.{◌≡◌, ◌∙◌, ◌<◌, ◌↔◌, ℕ, zero, suc, ◌+◌, Bool, true, false, nat_eq, List, [], ◌∷◌, ◌++◌, length, map, set, slice_get, Option, Some, None, refl, sym, ap, arith, length-set}
use Rattle.std.specs.Prelude.{cond, Result, is_ok, OnOk}
use Rattle.std.specs.List.{list_any}
use Rattle.std.proofs.lemmas.List.{length-append}
use Rattle.std.proofs.lemmas.Bool.{eqb-true, eqb-false, lt-leb, false_from_ne_true}
use Rattle.std.proofs.lemmas.Option.{none-some, same_Some}
use Rattle.wasm_types.specs.declared.sub.WasmSubType.{WasmSubType}
use Rattle.wasm_types.specs.contracts.equal_groups.WasmRecGroupPartialEq.TheImpl as groups_equal
use Rattle.type_registry.specs.declared.owners.Owner.{Owner}
use Rattle.type_registry.specs.Registry.{Group, indices_of}
use Rattle.type_registry.specs.Changes.{keep_group}
use Rattle.type_registry.specs.Owners.{owner_at, free_count, owned_by}
use Rattle.type_registry.specs.Keeping.{kept_from, group_in, IsOwned, HasCanonical, AreKeptByKeys}
use Rattle.type_registry.proofs.FirstIndices.{set-other, set-here}
use Rattle.type_registry.proofs.OwnerLists.{any-place, place-any}

pub ok-is : {A E P : Type 0} (r : Result A E) → is_ok r ≡ true → OnOk r P → P
ok-is r e p = grind arith

-- ---- owners of a new group's indices

pub owned-length : (f p : ℕ) (os : List (Option Owner)) (ns : List ℕ) → length (owned_by f p os ns) ≡ length os
owned-length f p os [] = refl
owned-length f p os (n ∷ ns) = owned-length f (p + 1) (set os n (Some (record { first = f; place = p }))) ns ∙ length-set os n (Some (record { first = f; place = p }))

pub owned-push : (f p : ℕ) (os : List (Option Owner)) (ns : List ℕ) (n : ℕ)
    → owned_by f p os (ns ++ n ∷ []) ≡ set (owned_by f p os ns) n (Some (record { first = f; place = p + length ns }))
owned-push f p os [] n = let at : p ≡ p + 0 = omega arith in ap (λ q. set os n (Some (record { first = f; place = q }))) at
owned-push f p os (m ∷ ns) n = grind (arith, set, (owned-push f (p + 1) (set os m (Some (record { first = f; place = p }))) ns n))

-- an index that is not among them has the owner that it had
owned-else : (f p : ℕ) (os : List (Option Owner)) (ns : List ℕ) (i : ℕ) → ((q : ℕ) → slice_get ns q ≡ Some i → ⊥) → owner_at (owned_by f p os ns) i ≡ owner_at os i
owned-else f p os [] i none = refl
owned-else f p os (n ∷ ns) i none =
    owned-else f (p + 1) (set os n (Some (record { first = f; place = p }))) ns i (λ q at. none (suc q) at)
    ∙ set-other os n i (Some (record { first = f; place = p })) (λ e. none 0 (ap Some (sym e)))

-- the index at a position has that position for its owner
owned-at : (f p : ℕ) (os : List (Option Owner)) (ns : List ℕ) (q i : ℕ) → slice_get ns q ≡ Some i → i < length os
    → ((r : ℕ) → slice_get ns r ≡ Some i → r ≡ q) → owner_at (owned_by f p os ns) i ≡ Some (record { first = f; place = p + q })
owned-at f p os [] q i at h one = absurd (none-some i at)
owned-at f p os (n ∷ ns) zero i at h one =
    let same : n ≡ i = same_Some n i at in
    let here : p ≡ p + 0 = omega arith in
    owned-else f (p + 1) (set os n (Some (record { first = f; place = p }))) ns i (λ r there. let bad : suc r ≡ 0 = one (suc r) there in absurd (omega (arith, bad)))
    ∙ ap (λ m. owner_at (set os m (Some (record { first = f; place = p }))) i) same ∙ set-here os i (Some (record { first = f; place = p })) h
    ∙ ap (λ r. Some (record { first = f; place = r })) here
owned-at f p os (n ∷ ns) (suc q) i at h one = grind (arith, set, length-set, (owned-at f (p + 1) (set os n (Some (record { first = f; place = p }))) ns q i at (omega (arith, h, length-set os n (Some (record { first = f; place = p })))) (λ r there. let e : suc r ≡ suc q = one (suc r) there in omega (arith, e))))

-- ---- the list by first indices

front : (gs : List (Option Group)) (k n : ℕ) (g : Group) → n < k → (n, g) ∷ kept_from k gs ≡ keep_group (kept_from k gs) n g
front [] k n g lt = refl
front (None ∷ gs) k n g lt = front gs (k + 1) n g (omega (arith, lt))
front (Some x ∷ gs) k n g lt = grind arith

pub keep-at : (gs : List (Option Group)) (k m n : ℕ) (g : Group) → n ≡ k + m → m < length gs → group_in gs m ≡ None
    → kept_from k (set gs m (Some g)) ≡ keep_group (kept_from k gs) n g
keep-at [] k m n g e h none = absurd (omega (arith, h))
keep-at (None ∷ gs) k zero n g e h none = grind (arith, front)
keep-at (Some x ∷ gs) k zero n g e h none = absurd (none-some x (sym none))
keep-at (None ∷ gs) k (suc m) n g e h none = keep-at gs (k + 1) m n g (omega (arith, e)) (omega (arith, h)) none
keep-at (Some x ∷ gs) k (suc m) n g e h none = grind (arith, lt-leb, (keep-at gs (k + 1) m n g (omega (arith, e)) (omega (arith, h)) none))

pub length-kept : (gs : List (Option Group)) (k f : ℕ) (g : Group) → f < length gs → group_in gs f ≡ None
    → length (indices_of (kept_from k (set gs f (Some g)))) ≡ length (indices_of (kept_from k gs)) + length g.indices
length-kept [] k f g h none = absurd (omega (arith, h))
length-kept (None ∷ gs) k zero g h none = omega (arith, length-append g.indices (indices_of (kept_from (k + 1) gs)))
length-kept (Some x ∷ gs) k zero g h none = absurd (none-some x (sym none))
length-kept (None ∷ gs) k (suc f) g h none = length-kept gs (k + 1) f g (omega (arith, h)) none
length-kept (Some x ∷ gs) k (suc f) g h none = grind (arith, length-append, set, (length-kept gs (k + 1) f g (omega (arith, h)) none))

abbrev pub Eq : List WasmSubType → List WasmSubType → Bool
Eq = groups_equal.ghosts.eq

-- a new group that may be kept: there is capacity, its indices are distinct and not live, and no
-- kept group is equal
pub record IsNew (gs : List (Option Group)) (os : List (Option Owner)) (f : ℕ) (g : Group) : Type 0 where
  pub room : f < length gs
  pub empty : group_in gs f ≡ None
  pub first : slice_get g.indices 0 ≡ Some f
  pub free : (p n : ℕ) → slice_get g.indices p ≡ Some n → (n < length gs) × (owner_at os n ≡ None)
  pub once : (p q n : ℕ) → slice_get g.indices p ≡ Some n → slice_get g.indices q ≡ Some n → p ≡ q

module _ {Key : Type 0} {content : Key → List WasmSubType} {live : ℕ} {known : Key → Option ℕ} {gs : List (Option Group)} {os : List (Option Owner)}
    {free free' : List ℕ} {f : ℕ} {g : Group} (live' : ℕ) (known' : Key → Option ℕ) (k : AreKeptByKeys content live known gs os free) (new : IsNew gs os f g)
    (equal : (x y : List WasmSubType) → (Eq x y ≡ true) ↔ (x ≡ y)) (unknown : (key : Key) → content key ≡ g.canonical → known key ≡ None)
    (learns : (q : Key) → known' q ≡ cond (Eq g.canonical (content q)) (Some f) (known q))
    (more : live' ≡ live + length g.indices) (frees : free' ≡ map free_count (owned_by f 0 os g.indices)) where
  abbrev gs' : List (Option Group)
  gs' = set gs f (Some g)

  abbrev os' : List (Option Owner)
  os' = owned_by f 0 os g.indices

  -- a group that is there now is the new one or was there
  data Where (n : ℕ) (h : Group) : Type 0 where
    Here : n ≡ f → h ≡ g → Where n h
    There : (n ≡ f → ⊥) → group_in gs n ≡ Some h → Where n h

  at-of : (n : ℕ) (h : Group) → group_in gs' n ≡ Some h → Where n h
  at-of n h is = grind (arith, Here, There, eqb-true n f, eqb-false n f, set-here gs f (Some g) new.room, set-other gs f n (Some g))

  still : (n : ℕ) (h : Group) → group_in gs n ≡ Some h → group_in gs' n ≡ Some h
  still n h is = set-other gs f n (Some g) (λ e. none-some h (sym (ap (group_in gs) e ∙ new.empty) ∙ is)) ∙ is

  first' : (n : ℕ) (h : Group) → group_in gs' n ≡ Some h → slice_get h.indices 0 ≡ Some n
  first' n h is = grind (arith, at-of, slice_get)

  owned' : (n p i : ℕ) (h : Group) → group_in gs' n ≡ Some h → slice_get h.indices p ≡ Some i → owner_at os' i ≡ Some (record { first = n; place = p })
  owned' n p i h is at = grind (arith, at-of, slice_get, owned-at, owned-else, none-some)

  owns' : (i : ℕ) (o : Owner) → owner_at os' i ≡ Some o → IsOwned gs' i o
  owns' i o is = by (list_any (nat_eq i) g.indices) refl where
    by : (c : Bool) → list_any (nat_eq i) g.indices ≡ c → IsOwned gs' i o
    by true e =
        let q = place-any g.indices i e in
        let mine = owned-at f 0 os g.indices q.place i q.at (omega (arith, (new.free q.place i q.at).0, k.owners)) (λ r there. new.once r q.place i there q.at) in
        record { group = g; kept = grind (arith, mine, set-here gs f (Some g) new.room); at = grind (arith, mine, q.at) }
    by false e =
        let old : owner_at os i ≡ Some o = grind (arith, owned-else, any-place) in
        let w = k.owns i o old in record { group = w.group; kept = still o.first w.group w.kept; at = w.at }

  found' : (n : ℕ) (h : Group) → group_in gs' n ≡ Some h → (key : Key) → content key ≡ h.canonical → known' key ≡ Some n
  found' n h is key has = grind (arith, at-of, false_from_ne_true, none-some)

  knows' : (key : Key) (n : ℕ) → known' key ≡ Some n → HasCanonical gs' n (content key)
  knows' key n is = by (Eq g.canonical (content key)) refl (sym (learns key) ∙ is) where
    by : (c : Bool) → Eq g.canonical (content key) ≡ c → cond c (Some f) (known key) ≡ Some n → HasCanonical gs' n (content key)
    by true e now = grind (arith, set-here gs f (Some g) new.room)
    by false e now = let w = k.knows key n now in record { group = w.group; kept = still n w.group w.kept; same = w.same }

  pub kept-with : AreKeptByKeys content live' known' gs' os' free'
  kept-with = grind (arith, length-set, owned-length, length-kept, first', owned', owns', found', knows')
