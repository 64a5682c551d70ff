-- Groups that are found among those that are kept, and groups that are not.
use Rattle.std.proofs.Common.{◌≡◌, ◌∙◌, ◌↔◌, ◌+◌, ℕ, zero, suc, true, false, nat_eq, List, [], ◌∷◌, ◌++◌, length, slice_get, Option, Some, None, refl, arith}
use Rattle.std.specs.List.{list_any}
use Rattle.std.proofs.lemmas.Bool.{cases_Bool, or_left, or_right}
use Rattle.std.proofs.lemmas.List.Folds.{list_any-append}
use Rattle.std.proofs.lemmas.Option.{none-some, same_Some}
use Rattle.wasm_types.specs.declared.sub.WasmSubType.{WasmSubType}
use Rattle.type_registry.specs.declared.owners.Owner.{Owner}
use Rattle.type_registry.specs.Registry.{Group, GroupsState, indices_of}
use Rattle.type_registry.specs.Changes.{find_group}
use Rattle.type_registry.specs.Owners.{owner_at}
use Rattle.type_registry.specs.Keeping.{kept_from, group_in, AreKeptByKeys}
use Rattle.type_registry.specs.Fresh.{MayBeKept}
use Rattle.type_registry.proofs.OwnerLists.{any-place}
use Rattle.type_registry.proofs.Keeping.{Eq, IsNew}

-- ---- numbers of two lists

pub any-left : (xs ys : List ℕ) (n : ℕ) → list_any (nat_eq n) xs ≡ true → list_any (nat_eq n) (xs ++ ys) ≡ true
any-left xs ys n e = list_any-append (nat_eq n) xs ys ∙ or_left (list_any (nat_eq n) xs) (list_any (nat_eq n) ys) e

pub any-right : (xs ys : List ℕ) (n : ℕ) → list_any (nat_eq n) ys ≡ true → list_any (nat_eq n) (xs ++ ys) ≡ true
any-right xs ys n e = list_any-append (nat_eq n) xs ys ∙ or_right (list_any (nat_eq n) xs) (list_any (nat_eq n) ys) e

-- ---- what kept groups have

pub none-of : {A : Type 0} (o : Option A) → ((x : A) → o ≡ Some x → ⊥) → o ≡ None
none-of o not = grind arith

pub has-index : (gs : List (Option Group)) (k f p n : ℕ) (g : Group) → group_in gs f ≡ Some g → slice_get g.indices p ≡ Some n
    → list_any (nat_eq n) (indices_of (kept_from k gs)) ≡ true
has-index (Some x ∷ gs) k zero p n g at is = grind (arith, any-left, any-place, slice_get, same_Some)
has-index (None ∷ gs) k (suc f) p n g at is = has-index gs (k + 1) f p n g at is
has-index (Some x ∷ gs) k (suc f) p n g at is = grind (arith, any-right, (has-index gs (k + 1) f p n g at is))
has-index _ _ _ _ _ g at _ = absurd (none-some g at)

-- the one kept group that is equal is found
find-some : (gs : List (Option Group)) (k f : ℕ) (g : Group) (c : List WasmSubType) → group_in gs f ≡ Some g → Eq g.canonical c ≡ true
    → ((n : ℕ) (h : Group) → group_in gs n ≡ Some h → Eq h.canonical c ≡ true → n ≡ f) → find_group c (kept_from k gs) ≡ Some g
find-some (None ∷ gs) k (suc f) g c at holds only = find-some gs (k + 1) f g c at holds (λ n h here is. grind (arith, only (suc n) h here is))
find-some (Some x ∷ gs) k zero g c at holds only = grind arith
find-some (Some x ∷ gs) k (suc f) g c at holds only =
    grind (arith, cases_Bool (Eq x.canonical c), only 0 x refl, (find-some gs (k + 1) f g c at holds (λ n h here is. grind (arith, only (suc n) h here is))))
find-some _ _ _ g _ at _ _ = absurd (none-some g at)

-- where none is equal none is found
find-none : (gs : List (Option Group)) (k : ℕ) (c : List WasmSubType) → ((n : ℕ) (h : Group) → group_in gs n ≡ Some h → Eq h.canonical c ≡ true → ⊥)
    → find_group c (kept_from k gs) ≡ None
find-none [] k c none = refl
find-none (None ∷ gs) k c none = find-none gs (k + 1) c (λ n h here is. none (suc n) h here is)
find-none (Some x ∷ gs) k c none =
    grind (arith, cases_Bool (Eq x.canonical c), none 0 x refl, (find-none gs (k + 1) c (λ n h here is. none (suc n) h here is)))

module _ {Key : Type 0} {content : Key → List WasmSubType} {live : ℕ} {known : Key → Option ℕ} {gs : List (Option Group)} {os : List (Option Owner)}
    {free : List ℕ} (k : AreKeptByKeys content live known gs os free) (equal : (x y : List WasmSubType) → (Eq x y ≡ true) ↔ (x ≡ y)) where
  pub found-known : (key : Key) (n : ℕ) → known key ≡ Some n → find_group (content key) (kept_from 0 gs) ≡ group_in gs n
  found-known key n is = let w = k.knows key n is in grind (arith, find-some gs 0 n w.group (content key) w.kept, k.found)

  pub not-found : (key : Key) → known key ≡ None → find_group (content key) (kept_from 0 gs) ≡ None
  not-found key none = grind (arith, find-none, none-some)

  -- ---- a group that may be kept

  module _ {s : GroupsState} {g : Group} {f : ℕ} (seen : kept_from 0 gs ≡ s.groups) (room : length gs ≡ s.room) (first : slice_get g.indices 0 ≡ Some f)
      (may : MayBeKept s g) where
    unowned : (n : ℕ) → list_any (nat_eq n) (indices_of s.groups) ≡ false → owner_at os n ≡ None
    unowned n none = none-of (owner_at os n) (λ o e. let w = k.owns n o e in grind (arith, has-index gs 0 o.first o.place n w.group w.kept w.at))

    empty : group_in gs f ≡ None
    empty = none-of (group_in gs f) (λ h e. grind (arith, unowned f, may.free 0 f first, k.owned f 0 f h e (k.first f h e)))

    pub is-new : IsNew gs os f g
    is-new = grind (arith, empty, unowned)

    pub unknown : (key : Key) → content key ≡ g.canonical → known key ≡ None
    unknown key is = none-of (known key) (λ n e. let w = k.knows key n e in grind (arith, found-known key n e, may.unknown))
