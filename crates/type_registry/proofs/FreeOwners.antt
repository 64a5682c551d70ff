-- An index is free where it has no owner.
use Rattle.std.proofs.Common.{◌≡◌, ◌∙◌, ◌<◌, ◌≤◌, ℕ, zero, suc, ◌+◌, Bool, true, false, nat_eq, List, [], ◌∷◌, length, map, get_or, slice_get, Option, Some, None, refl, sym, ap, arith, option_and_then}
use Rattle.std.specs.List.{list_any}
use Rattle.std.proofs.lemmas.Option.{none-some, slice_get_past}
use Rattle.std.proofs.lemmas.List.{length-map}
use Rattle.std.proofs.lemmas.Bool.{false_from_ne_true}
use Rattle.wasm_types.specs.declared.sub.WasmSubType.{WasmSubType}
use Rattle.free_numbers.specs.Counts.{total, before}
use Rattle.type_registry.specs.declared.owners.Owner.{Owner}
use Rattle.type_registry.specs.Registry.{Group, Groups, indices_of}
use Rattle.type_registry.specs.Owners.{owner_at, free_count}
use Rattle.type_registry.specs.Keeping.{kept_from, group_in, AreKeptByKeys}
use Rattle.type_registry.specs.FreeIndices.{free_below}
use Rattle.type_registry.proofs.OwnerLists.{place-any}
use Rattle.type_registry.proofs.NewGroups.{has-index}
use Rattle.type_registry.proofs.KeepingAll.{any-second, true-false}
use Rattle.type_registry.proofs.FreeIndices.{AreCounted, counted-before, counted-free, counted-past}

-- the group that has an index
pub record HasIndex (gs : List (Option Group)) (i : ℕ) : Type 0 where
  pub first : ℕ
  pub place : ℕ
  pub group : Group
  pub kept : group_in gs first ≡ Some group
  pub at : slice_get group.indices place ≡ Some i

pub index-has : (gs : List (Option Group)) (k i : ℕ) → list_any (nat_eq i) (indices_of (kept_from k gs)) ≡ true → HasIndex gs i
index-has [] k i is = absurd (true-false false is refl)
index-has (None ∷ gs) k i is = let w = index-has gs (k + 1) i is in record { first = suc w.first; place = w.place; group = w.group; kept = w.kept; at = w.at }
index-has (Some x ∷ gs) k i is = by (list_any (nat_eq i) x.indices) refl (index-has gs (k + 1) i) where
  by : (c : Bool) → list_any (nat_eq i) x.indices ≡ c → (list_any (nat_eq i) (indices_of (kept_from (k + 1) gs)) ≡ true → HasIndex gs i)
      → HasIndex (Some x ∷ gs) i
  by true e rest = let p = place-any x.indices i e in record { first = 0; place = p.place; group = x; kept = refl; at = p.at }
  by false e rest =
      let w = rest (sym (any-second x.indices (indices_of (kept_from (k + 1) gs)) i e) ∙ is) in
      record { first = suc w.first; place = w.place; group = w.group; kept = w.kept; at = w.at }

count-at : (os : List (Option Owner)) (i : ℕ) → i < length os → get_or (map free_count os) i 0 ≡ free_count (owner_at os i)
count-at [] i lt = absurd (omega (arith, lt))
count-at (o ∷ os) zero lt = refl
count-at (o ∷ os) (suc i) lt = count-at os i (omega (arith, lt))

owner-past : (os : List (Option Owner)) (i : ℕ) → length os ≤ i → owner_at os i ≡ None
owner-past os i le = ap (λ (o : Option (Option Owner)). option_and_then (λ (x : Option Owner). x) o) (slice_get_past os i le)

module _ {Key : Type 0} {content : Key → List WasmSubType} {live : ℕ} {known : Key → Option ℕ} {gs : List (Option Group)} {os : List (Option Owner)}
    {free : List ℕ} (k : AreKeptByKeys content live known gs os free) where
  abbrev taken : List ℕ
  taken = indices_of (kept_from 0 gs)

  without-owner : (i : ℕ) → owner_at os i ≡ None → list_any (nat_eq i) taken ≡ false
  without-owner i none = grind (arith, false_from_ne_true, nat_eq, index-has, none-some)

  with-owner : (i : ℕ) (o : Owner) → owner_at os i ≡ Some o → list_any (nat_eq i) taken ≡ true
  with-owner i o is = let w = k.owns i o is in has-index gs 0 o.first o.place i w.group w.kept w.at

  pub owners-long : length free ≡ length os
  owners-long = ap length k.unowned ∙ length-map os free_count

  pub counted-owners : AreCounted taken free
  counted-owners i lt = grind (arith, owners-long, count-at, nat_eq, without-owner, with-owner)

  pub past-owners : (i : ℕ) → length free ≤ i → list_any (nat_eq i) taken ≡ false
  past-owners i le = grind (arith, owners-long, without-owner, owner-past)

  -- ---- a free index by how many are free before it

  module _ {now : Groups} (seen : kept_from 0 gs ≡ now) where
    pub nth-free : (n : ℕ) → get_or free n 0 ≡ 1 → list_any (nat_eq n) (indices_of now) ≡ false
    nth-free n one = ap (λ es. list_any (nat_eq n) (indices_of es)) (sym seen) ∙ (counted-free taken free counted-owners n one).1

    pub nth-rank : (n rank : ℕ) → get_or free n 0 ≡ 1 → before n free ≡ rank → free_below (indices_of now) n ≡ rank
    nth-rank n rank one is = grind (arith, counted-free, counted-owners, counted-before)

    pub past-free : (n : ℕ) → length free ≤ n → list_any (nat_eq n) (indices_of now) ≡ false
    past-free n le = ap (λ es. list_any (nat_eq n) (indices_of es)) (sym seen) ∙ past-owners n le

    pub past-rank : (n d : ℕ) → n ≡ length free + d → free_below (indices_of now) n ≡ total free + d
    past-rank n d e = ap (λ es. free_below (indices_of es) n) (sym seen) ∙ counted-past taken free counted-owners past-owners n d e
