-- Definitions that are read from the lists of a module.
use Rattle.std.proofs.Common.{◌≡◌, ◌<◌, ℕ, Bool, true, List, [], ◌∷◌, length, map, slice_get, get_or, All, Option, Some, refl, sym, subst, ◌∙◌, inl, inr, true≢false, arith}
use Rattle.std.specs.Prelude.{IsSome, option_and_then}
use Rattle.std.specs.List.{filter_map, IsDistinct}
use Rattle.std.specs.Option.{option_map}
use Rattle.std.proofs.lemmas.Bool.{cases_order}
use Rattle.std.proofs.lemmas.Option.{none-some, same_Some, slice_get-map, slice_get-get_or, slice_get_within, get_or_from_slice_get}
use Rattle.std.proofs.lemmas.List.Elements.{All-head, All-tail}
use Rattle.std.proofs.lemmas.Map.Keys.{apart_from_distinct}

-- an option that has a value
pub value_of : {A : Type 0} (o : Option A) → IsSome o → (x : A) × (o ≡ Some x)
value_of o h = grind arith

module _ {X Y : Type 0} (f : X → Option Y) where
  -- where all items give one, each gives the one at its position
  pub slice_get-filter_map : (xs : List X) → All (λ x. IsSome (f x)) xs → (k : ℕ) → slice_get (filter_map f xs) k ≡ option_and_then f (slice_get xs k)
  slice_get-filter_map [] all k = refl
  slice_get-filter_map (x ∷ xs) all k = grind (arith, All-head (λ y. IsSome (f y)) x xs all, slice_get-filter_map xs (All-tail (λ y. IsSome (f y)) x xs all))

  pub length-filter_map : (xs : List X) → All (λ x. IsSome (f x)) xs → length (filter_map f xs) ≡ length xs
  length-filter_map [] all = refl
  length-filter_map (x ∷ xs) all = grind (arith, All-head (λ y. IsSome (f y)) x xs all, length-filter_map xs (All-tail (λ y. IsSome (f y)) x xs all))

-- what holds of each item holds of the one at a position
pub All-slice_get : {X : Type 0} (P : X → Type 0) (xs : List X) (i : ℕ) (x : X) → All P xs → slice_get xs i ≡ Some x → P x
All-slice_get P xs i x all at = subst P (get_or_from_slice_get xs i x x at) (all i x (slice_get_within xs i x at))

-- what holds of the item at each position holds of all
pub All-from_slice_get : {X : Type 0} (P : X → Type 0) (xs : List X) → ((i : ℕ) (x : X) → slice_get xs i ≡ Some x → P x) → All P xs
All-from_slice_get P xs each = λ k d less. each k (get_or xs k d) (slice_get-get_or xs k d less)

-- an option that is mapped to a value
pub mapped : {X Y : Type 0} (f : X → Y) (o : Option X) (y : Y) → option_map f o ≡ Some y → (x : X) × (o ≡ Some x) × (f x ≡ y)
mapped f o y is = grind (arith, none-some, same_Some)

-- the item at a position of a mapped list comes from the item there
pub slice_get-from_map : {X Y : Type 0} (f : X → Y) (xs : List X) (i : ℕ) (y : Y) → slice_get (map f xs) i ≡ Some y
    → (x : X) × (slice_get xs i ≡ Some x) × (f x ≡ y)
slice_get-from_map f xs i y at = mapped f (slice_get xs i) y (sym (slice_get-map f xs i) ∙ at)

-- equal keys are at one position
pub one-place : {K : Type 0} (eq : K → K → Bool) (ks : List K) → IsDistinct eq ks → (i j : ℕ) (a b : K) → slice_get ks i ≡ Some a
    → slice_get ks j ≡ Some b → eq a b ≡ true → eq b a ≡ true → i ≡ j
one-place {K = K} eq ks distinct i j a b at_i at_j same same' =
    elim (cases_order i j) [
      | inl is ↦ is
      | inr other ↦ elim other [
        | inl less ↦ absurd (apart i j a b at_i at_j less same)
        | inr more ↦ absurd (apart j i b a at_j at_i more same')
      ]
    ]
  where
    apart : (p q : ℕ) (x y : K) → slice_get ks p ≡ Some x → slice_get ks q ≡ Some y → p < q → eq x y ≡ true → ⊥
    apart p q x y at_p at_q less e =
        let first : get_or ks p x ≡ x = get_or_from_slice_get ks p x x at_p in
        let second : get_or ks q x ≡ y = get_or_from_slice_get ks q y x at_q in
        true≢false (sym e ∙ sym (λ t. eq (first t) (second t)) ∙ apart_from_distinct eq ks p q x distinct less (slice_get_within ks q y at_q))
