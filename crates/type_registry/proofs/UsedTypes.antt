-- The types of live indices as they are used.
use Rattle.std.proofs.Common.{◌≡◌, ℕ, zero, suc, ◌+◌, false, nat_eq, List, [], ◌∷◌, ◌++◌, map, slice_get, Option, Some, None, refl, arith}
use Rattle.std.specs.List.{list_any, zip}
use Rattle.std.specs.Map.{lookup}
use Rattle.std.proofs.lemmas.Bool.{false_from_ne_true}
use Rattle.std.proofs.lemmas.Option.{none-some}
use Rattle.std.proofs.lemmas.Bool.Decides.{nat_tests}
use Rattle.wasm_types.specs.declared.sub.WasmSubType.{WasmSubType}
use Rattle.type_registry.specs.declared.owners.Owner.{Owner}
use Rattle.type_registry.specs.Registry.{Group, Groups, UsedType, used_type, used_types}
use Rattle.type_registry.specs.Owners.{owner_at}
use Rattle.type_registry.specs.Keeping.{kept_from, group_in, AreKeptByKeys}
use Rattle.type_registry.proofs.OwnerLists.{place-any}

abbrev pub or_else : Option UsedType → Option UsedType → Option UsedType
or_else None o = o
or_else (Some t) o = Some t

pub lookup-both : (n : ℕ) (xs ys : List (ℕ × UsedType)) → lookup (nat_eq n) (xs ++ ys) ≡ or_else (lookup (nat_eq n) xs) (lookup (nat_eq n) ys)
lookup-both n [] ys = refl
lookup-both n (x ∷ xs) ys = let rest = lookup-both n xs ys in grind (arith, nat_tests)

zip-none : (n : ℕ) (is : List ℕ) (ts : List UsedType) → list_any (nat_eq n) is ≡ false → lookup (nat_eq n) (zip is ts) ≡ None
zip-none n (i ∷ is) (t ∷ ts) e = let rest = zip-none n is ts in grind (arith, nat_tests)
zip-none _ _ _ _ = refl

zip-at : (n : ℕ) (is : List ℕ) (ts : List UsedType) (p : ℕ) → slice_get is p ≡ Some n → ((q : ℕ) → slice_get is q ≡ Some n → q ≡ p)
    → lookup (nat_eq n) (zip is ts) ≡ slice_get ts p
zip-at n [] ts p at one = absurd (none-some n at)
zip-at n (i ∷ is) (t ∷ ts) zero at one = grind arith
zip-at n (i ∷ is) (t ∷ ts) (suc p) at one =
    grind (arith, nat_tests, one 0, (zip-at n is ts p at (λ q here. grind (arith, one (suc q) here))))
zip-at _ _ _ _ _ _ = refl

abbrev used_in : Group → List UsedType
used_in g = map (used_type g.indices) g.canonical

miss : (gs : List (Option Group)) (k n : ℕ) → ((m : ℕ) (g : Group) → group_in gs m ≡ Some g → list_any (nat_eq n) g.indices ≡ false)
    → lookup (nat_eq n) (used_types (kept_from k gs)) ≡ None
miss [] k n no-one = refl
miss (None ∷ gs) k n no-one = miss gs (k + 1) n (λ m g at. no-one (suc m) g at)
miss (Some g ∷ gs) k n no-one = grind (arith, lookup-both, zip-none n g.indices (used_in g) (no-one 0 g refl), (miss gs (k + 1) n (λ m h at. no-one (suc m) h at)))

-- a value, or else nothing more
or-nothing : (o : Option UsedType) → or_else o None ≡ o
or-nothing o = grind arith

hit : (gs : List (Option Group)) (k m n p : ℕ) (g : Group) → group_in gs m ≡ Some g → slice_get g.indices p ≡ Some n
    → ((q : ℕ) → slice_get g.indices q ≡ Some n → q ≡ p)
    → ((j : ℕ) (h : Group) → (j ≡ m → ⊥) → group_in gs j ≡ Some h → list_any (nat_eq n) h.indices ≡ false)
    → lookup (nat_eq n) (used_types (kept_from k gs)) ≡ slice_get (used_in g) p
hit (None ∷ gs) k (suc m) n p g at is one others = hit gs (k + 1) m n p g at is one (λ j h apart here. others (suc j) h (λ e. apart (omega (arith, e))) here)
hit (Some x ∷ gs) k zero n p g at is one others =
    grind (arith, lookup-both, or-nothing, zip-at, (miss gs (k + 1) n (λ m h here. others (suc m) h (λ e. absurd (omega (arith, e))) here)))
hit (Some x ∷ gs) k (suc m) n p g at is one others =
    grind (
      arith,
      lookup-both,
      zip-none n x.indices (used_in x) (others 0 x (λ e. absurd (omega (arith, e))) refl),
      (hit gs (k + 1) m n p g at is one (λ j h apart here. others (suc j) h (λ e. apart (omega (arith, e))) here)),
    )
hit _ _ _ _ _ g at _ _ _ = absurd (none-some g at)

module _ {Key : Type 0} {content : Key → List WasmSubType} {live : ℕ} {known : Key → Option ℕ} {gs : List (Option Group)} {os : List (Option Owner)}
    {free : List ℕ} (k : AreKeptByKeys content live known gs os free) {now : Groups} (seen : kept_from 0 gs ≡ now) (n : ℕ) where
  -- an index without an owner is in no group
  pub no-type : owner_at os n ≡ None → lookup (nat_eq n) (used_types now) ≡ None
  no-type none = rw (← seen) (miss gs 0 n (λ m g at. false_from_ne_true (list_any (nat_eq n) g.indices) (λ e. grind (arith, place-any g.indices n e))))

  -- an owner has a group, and its member's type is that of the index
  pub some-type : (o : Owner) (g : Group) → owner_at os n ≡ Some o → group_in gs o.first ≡ Some g
      → lookup (nat_eq n) (used_types now) ≡ slice_get (used_in g) o.place
  some-type o g is at = rw (← seen) (hit gs 0 o.first n o.place g at (grind (arith, k.owns n o is)) (λ q there. grind (arith, k.owned o.first q n g at there))
      (λ j h apart there. false_from_ne_true (list_any (nat_eq n) h.indices) (λ e. grind (arith, place-any h.indices n e))))

  -- an owner has a group
  pub no-group : (o : Owner) → owner_at os n ≡ Some o → group_in gs o.first ≡ None → ⊥
  no-group o is none = grind (arith, k.owns n o is)
