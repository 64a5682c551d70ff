-- What is kept remains so where a group is removed, or its count changes.
use Rattle.std.proofs.Common.{if◌then◌else◌, ◌≡◌, ◌∙◌, ◌↔◌, ℕ, ◌+◌, Bool, true, false, nat_eq, List, length, map, set, slice_get, Option, Some, None, refl, sym, ap, arith, length-set}
use Rattle.std.specs.Prelude.{cond}
use Rattle.std.specs.List.{list_any}
use Rattle.std.proofs.lemmas.Bool.{eqb-true, eqb-false, false_from_ne_true}
use Rattle.std.proofs.lemmas.Option.{none-some, same_Some}
use Rattle.wasm_types.specs.declared.sub.WasmSubType.{WasmSubType}
use Rattle.type_registry.specs.declared.owners.Owner.{Owner}
use Rattle.type_registry.specs.Registry.{Group}
use Rattle.type_registry.specs.Owners.{owner_at, free_count, emptied}
use Rattle.type_registry.specs.Keeping.{group_in, IsOwned, HasCanonical, AreKeptByKeys}
use Rattle.type_registry.proofs.FirstIndices.{set-other, set-here, set-none, length-removed, length-counted, group-within}
use Rattle.type_registry.proofs.Keeping.{Eq}
use Rattle.type_registry.proofs.OwnerLists.{emptied-at, emptied-length, any-place, place-any}

module _ {Key : Type 0} {content : Key → List WasmSubType} {live : ℕ} {known : Key → Option ℕ} {gs : List (Option Group)} {os : List (Option Owner)}
    {free free' : List ℕ} {g : Group} (live' : ℕ) (known' : Key → Option ℕ) (k : AreKeptByKeys content live known gs os free) (f : ℕ) (at : group_in gs f ≡ Some g)
    (equal : (x y : List WasmSubType) → (Eq x y ≡ true) ↔ (x ≡ y))
    (forgets : (q : Key) → known' q ≡ cond (Eq g.canonical (content q)) None (known q))
    (less : live' + length g.indices ≡ live) (frees : free' ≡ map free_count (emptied os g.indices)) where
  abbrev gs' : List (Option Group)
  gs' = set gs f None

  abbrev os' : List (Option Owner)
  os' = emptied os g.indices

  -- what is there now was there, elsewhere
  stays : (n : ℕ) (h : Group) → group_in gs' n ≡ Some h → (n ≡ f → ⊥) × (group_in gs n ≡ Some h)
  stays n h here = let apart : n ≡ f → ⊥ = (λ e. grind (arith, set-none gs f)) in (apart, sym (set-other gs f n None apart) ∙ here)

  -- an index of another group is no index of this one
  elsewhere : (n p i : ℕ) (h : Group) → (n ≡ f → ⊥) → group_in gs n ≡ Some h → slice_get h.indices p ≡ Some i → list_any (nat_eq i) g.indices ≡ false
  elsewhere n p i h apart here is =
      false_from_ne_true (list_any (nat_eq i) g.indices) (λ e. let q = place-any g.indices i e in grind (arith, k.owned f q.place i g at q.at, k.owned n p i h here is))

  owned : (n p i : ℕ) (h : Group) → group_in gs' n ≡ Some h → slice_get h.indices p ≡ Some i → owner_at os' i ≡ Some (record { first = n; place = p })
  owned n p i h here is = grind (arith, stays, emptied-at, elsewhere)

  owns : (i : ℕ) (o : Owner) → owner_at os' i ≡ Some o → IsOwned gs' i o
  owns i o is = by (list_any (nat_eq i) g.indices) refl (sym (emptied-at os g.indices i) ∙ is) where
    by : (c : Bool) → list_any (nat_eq i) g.indices ≡ c → (if c then None else owner_at os i) ≡ Some o → IsOwned gs' i o
    by true e now = absurd (none-some o now)
    by false e now = let w = k.owns i o now in record { group = w.group; kept = set-other gs f o.first None (λ same. grind (arith, any-place)) ∙ w.kept; at = w.at }

  known-still : (n : ℕ) (h : Group) → group_in gs' n ≡ Some h → (key : Key) → content key ≡ h.canonical → known' key ≡ Some n
  known-still n h here key is = grind (arith, stays, false_from_ne_true, same_Some)

  knows-still : (key : Key) (n : ℕ) → known' key ≡ Some n → HasCanonical gs' n (content key)
  knows-still key n is = by (Eq g.canonical (content key)) refl (sym (forgets key) ∙ is) where
    by : (b : Bool) → Eq g.canonical (content key) ≡ b → cond b None (known key) ≡ Some n → HasCanonical gs' n (content key)
    by true e now = absurd (none-some n now)
    by false e now = let w = k.knows key n now in record { group = w.group; kept = set-other gs f n None (λ same. grind arith) ∙ w.kept; same = w.same }

  pub kept-without : AreKeptByKeys content live' known' gs' os' free'
  kept-without = grind (arith, length-set, emptied-length, length-removed, stays, owned, owns, known-still, knows-still)

-- ---- the count of a group changes

module _ {Key : Type 0} {content : Key → List WasmSubType} {live : ℕ} {known : Key → Option ℕ} {gs : List (Option Group)} {os : List (Option Owner)}
    {free : List ℕ} {g : Group} (k : AreKeptByKeys content live known gs os free) (f count : ℕ) (at : group_in gs f ≡ Some g) where
  abbrev g' : Group
  g' = record g { count = count }

  abbrev counted : List (Option Group)
  counted = set gs f (Some g')

  -- a group of one list that is in another, with another count
  record Alike (from : List (Option Group)) (n : ℕ) (h : Group) : Type 0 where
    pub group : Group
    pub kept : group_in from n ≡ Some group
    pub indices : h.indices ≡ group.indices
    pub canonical : h.canonical ≡ group.canonical

  -- what is there now was there
  was : (n : ℕ) (h : Group) → group_in counted n ≡ Some h → Alike gs n h
  was n h here = by (nat_eq n f) refl where
    by : (c : Bool) → nat_eq n f ≡ c → Alike gs n h
    by true e =
        let is : h ≡ g' = grind (arith, eqb-true n f e, set-here gs f (Some g') (group-within gs f g at)) in
        record { group = g; kept = ap (group_in gs) (eqb-true n f e) ∙ at; indices = ap (λ (x : Group). x.indices) is; canonical = ap (λ (x : Group). x.canonical) is }
    by false e = record { group = h; kept = sym (set-other gs f n (Some g') (eqb-false n f e)) ∙ here; indices = refl; canonical = refl }

  -- and the other way round
  still : (n : ℕ) (h : Group) → group_in gs n ≡ Some h → Alike counted n h
  still n h here = by (nat_eq n f) refl where
    by : (c : Bool) → nat_eq n f ≡ c → Alike counted n h
    by true e =
        let kept : group_in counted n ≡ Some g' = grind (arith, eqb-true n f e, set-here gs f (Some g') (group-within gs f g at)) in
        let is : h ≡ g = grind (arith, eqb-true n f e) in
        record { group = g'; kept = kept; indices = ap (λ (x : Group). x.indices) is; canonical = ap (λ (x : Group). x.canonical) is }
    by false e = record { group = h; kept = set-other gs f n (Some g') (eqb-false n f e) ∙ here; indices = refl; canonical = refl }

  pub kept-counted : AreKeptByKeys content live known counted os free
  kept-counted = record {
    few = omega (arith, k.few, length-set gs f (Some g'));
    owners = k.owners ∙ sym (length-set gs f (Some g'));
    counted = k.counted ∙ sym (length-counted gs 0 f count g at);
    first = λ n h here. let w = was n h here in ap (λ is. slice_get is 0) w.indices ∙ k.first n w.group w.kept;
    owned = λ n p i h here is. let w = was n h here in k.owned n p i w.group w.kept (ap (λ is. slice_get is p) (sym w.indices) ∙ is);
    owns = λ i o is. let w = k.owns i o is in let s = still o.first w.group w.kept in
        record { group = s.group; kept = s.kept; at = ap (λ is. slice_get is o.place) (sym s.indices) ∙ w.at };
    unowned = k.unowned;
    found = λ n h here key is. let w = was n h here in k.found n w.group w.kept key (is ∙ w.canonical);
    knows = λ key n is. let w = k.knows key n is in let s = still n w.group w.kept in record { group = s.group; kept = s.kept; same = sym s.canonical ∙ w.same };
  }
