-- Items at positions of lists that grow at the end, and of two lists side by side.
use Rattle.std.proofs.Common.{◌≡◌, ◌∙◌, ◌<◌, ◌≤◌, ◌+◌, ℕ, zero, suc, List, [], ◌∷◌, ◌++◌, length, slice_get, All, Option, Some, inl, inr, refl, sym, ap, arith, length-append}
use Rattle.std.specs.Prelude.{◌⊎◌}
use Rattle.std.specs.List.{AllZip, zip}
use Rattle.std.proofs.Math.ListN.{get_or-append}
use Rattle.std.proofs.lemmas.Bool.{cases_lt}
use Rattle.std.proofs.lemmas.List.Elements.{All-nil, All-cons}
use Rattle.std.proofs.lemmas.Option.{same_Some, slice_get-get_or, slice_get_within}
use Rattle.entity_map.proofs.PoolLemmas.{slice_get-append_end}

-- an item before the last
pub at-front : {X : Type 0} (xs : List X) (x : X) (k : ℕ) → k < length xs → slice_get (xs ++ x ∷ []) k ≡ slice_get xs k
at-front xs x k less =
    slice_get-get_or (xs ++ x ∷ []) k x (omega (arith, less, length-append xs (x ∷ [])))
    ∙ ap Some (get_or-append xs (x ∷ []) x k less)
    ∙ sym (slice_get-get_or xs k x less)

-- the last
pub at-end : {X : Type 0} (xs : List X) (x : X) (k : ℕ) → k ≡ length xs → slice_get (xs ++ x ∷ []) k ≡ Some x
at-end xs x k is = ap (slice_get (xs ++ x ∷ [])) is ∙ slice_get-append_end xs x

-- an item is the last, or before it
pub at-either : {X : Type 0} (xs : List X) (x : X) (k : ℕ) (y : X) → slice_get (xs ++ x ∷ []) k ≡ Some y
    → ((k < length xs) × (slice_get xs k ≡ Some y)) ⊎ ((k ≡ length xs) × (x ≡ y))
at-either xs x k y at = by (cases_lt k (length xs)) where
  by : (k < length xs) ⊎ (length xs ≤ k) → ((k < length xs) × (slice_get xs k ≡ Some y)) ⊎ ((k ≡ length xs) × (x ≡ y))
  by (inl less) = inl (less, sym (at-front xs x k less) ∙ at)
  by (inr more) =
      let within = slice_get_within (xs ++ x ∷ []) k y at in
      let is : k ≡ length xs = omega (arith, more, within, length-append xs (x ∷ [])) in
      inr (is, same_Some x y (sym (at-end xs x k is) ∙ at))

-- what holds at each position, also holds of one more
pub each-more : {X : Type 0} (f : ℕ → Option X) (xs : List X) (x : X) (n : ℕ) → length xs ≡ n → ((i : ℕ) → i < n → slice_get xs i ≡ f i)
    → f n ≡ Some x → (i : ℕ) → i < n + 1 → slice_get (xs ++ x ∷ []) i ≡ f i
each-more f xs x n long each next i less = by (cases_lt i n) where
  by : (i < n) ⊎ (n ≤ i) → slice_get (xs ++ x ∷ []) i ≡ f i
  by (inl before) = at-front xs x i (omega (arith, before, long)) ∙ each i before
  by (inr after) =
      let is : i ≡ n = omega (arith, after, less) in
      at-end xs x i (is ∙ sym long) ∙ sym next ∙ ap f (sym is)

-- what holds place by place holds of each pair
pub zip-all : {A B : Type 0} (R : A → B → Type 0) (xs : List A) (ys : List B) → AllZip R xs ys → All (λ (p : A × B). R p.0 p.1) (zip xs ys)
zip-all {A} {B} R [] [] all = All-nil (λ (p : A × B). R p.0 p.1)
zip-all R [] (y ∷ ys) all = absurd all
zip-all R (x ∷ xs) [] all = absurd all
zip-all {A} {B} R (x ∷ xs) (y ∷ ys) all = All-cons (λ (p : A × B). R p.0 p.1) (x, y) (zip xs ys) all.0 (zip-all R xs ys all.1)

-- and what follows from it
pub zip-weaker : {A B : Type 0} (R S : A → B → Type 0) → ((x : A) (y : B) → R x y → S x y) → (xs : List A) (ys : List B) → AllZip R xs ys → AllZip S xs ys
zip-weaker R S f [] [] all = all
zip-weaker R S f [] (y ∷ ys) all = absurd all
zip-weaker R S f (x ∷ xs) [] all = absurd all
zip-weaker R S f (x ∷ xs) (y ∷ ys) all = (f x y all.0, zip-weaker R S f xs ys all.1)

-- there is an item at each position below the length
pub some-at : {X : Type 0} (xs : List X) (k : ℕ) → k < length xs → (x : X) × (slice_get xs k ≡ Some x)
some-at [] k less = absurd (omega (arith, less))
some-at (x ∷ xs) zero less = (x, refl)
some-at (x ∷ xs) (suc k) less = some-at xs k (omega (arith, less))
