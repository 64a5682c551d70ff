-- Items of lists.
use Rattle.std.proofs.Common.{◌≡◌, ◌≢◌, ℕ, zero, suc, ◌+◌, ◌<◌, ◌≤◌, List, [], ◌∷◌, ◌++◌, length, map, set, take, drop, replicate, Option, None, Some, refl, sym, ◌∙◌, ap, subst, arith, ◌-◌}
use Rattle.std.specs.Prelude.{slice_get, All, MatchOption}
use Rattle.std.specs.Borrow.{Bor}
use Rattle.std.specs.List.{HoldsAt}
use Rattle.std.specs.Option.{option_copied}
use Rattle.std.proofs.lemmas.List.{length-set, length-replicate, get_or-replicate, get_or-set_same, get_or-set_other}
use Rattle.std.proofs.lemmas.List.Elements.{All-get_or}
use Rattle.std.proofs.lemmas.Option.{get_or_from_slice_get, slice_get_within, slice_get_past, slice_get-get_or}
use Rattle.std.proofs.lemmas.Bool.{cases_lt}

-- ---- lists

pub get-set-same : {A : Type 0} (xs : List A) (k : ℕ) (x : A) → k < length xs → slice_get (set xs k x) k ≡ Some x
get-set-same xs k x l = grind (arith, slice_get-get_or (set xs k x) k x, length-set, get_or-set_same)

pub get-set-other : {A : Type 0} (xs : List A) (k j : ℕ) (x : A) → j ≢ k → slice_get (set xs k x) j ≡ slice_get xs j
get-set-other xs k j x ne = grind (arith, cases_lt j (length xs), slice_get-get_or xs j x, slice_get-get_or (set xs k x) j x, slice_get_past, length-set, get_or-set_other)

pub get-append-low : {A : Type 0} (xs ys : List A) (k : ℕ) → k < length xs → slice_get (xs ++ ys) k ≡ slice_get xs k
get-append-low [] ys k l = absurd (omega arith)
get-append-low (x ∷ xs) ys zero l = refl
get-append-low (x ∷ xs) ys (suc k) l = get-append-low xs ys k (omega arith)

pub get-append-high : {A : Type 0} (xs ys : List A) (k : ℕ) → slice_get (xs ++ ys) (length xs + k) ≡ slice_get ys k
get-append-high [] ys k = ap (slice_get ys) (omega arith)
get-append-high (x ∷ xs) ys k = grind (arith, (get-append-high xs ys k))

pub get-take : {A : Type 0} (n : ℕ) (xs : List A) (k : ℕ) → k < n → slice_get (take n xs) k ≡ slice_get xs k
get-take zero xs k l = absurd (omega arith)
get-take (suc n) [] k l = refl
get-take (suc n) (x ∷ xs) zero l = refl
get-take (suc n) (x ∷ xs) (suc k) l = get-take n xs k (omega arith)

pub get-drop : {A : Type 0} (n : ℕ) (xs : List A) (k : ℕ) → slice_get (drop n xs) k ≡ slice_get xs (n + k)
get-drop zero xs k = ap (slice_get xs) (omega arith)
get-drop (suc n) [] k = refl
get-drop (suc n) (x ∷ xs) k = grind (arith, (get-drop n xs k))

-- what all have, one that is found has
pub all-at : {X : Type 0} (P : X → Type 0) (xs : List X) (i : ℕ) (x : X) → All P xs → slice_get xs i ≡ Some x → P x
all-at P xs i x all at = subst P (get_or_from_slice_get xs i x x at) (All-get_or P xs i x (slice_get_within xs i x at) all)

pub get-replicate : {A : Type 0} (x : A) (n p : ℕ) → p < n → slice_get (replicate n x) p ≡ Some x
get-replicate x n p l = grind (arith, slice_get-get_or (replicate n x) p x, length-replicate, get_or-replicate)

pub map-replicate : {A B : Type 0} (f : A → B) (x : A) (y : B) (n : ℕ) → f x ≡ y → map f (replicate n x) ≡ replicate n y
map-replicate f x y zero e = refl
map-replicate f x y (suc n) e = grind (arith, (map-replicate f x y n e))

-- what `get` copies out of a slice
pub copied-is : {A : Type 0} (xs : List A) (i : ℕ) (o : Option (Bor A)) → MatchOption o (length xs ≤ i) (λ x. (i < length xs) × HoldsAt (λ y. x.now ≡ y) xs i)
    → option_copied o ≡ slice_get xs i
copied-is xs i None h = sym (slice_get_past xs i h)
copied-is xs i (Some x) h = ap Some (h.1 x.now) ∙ sym (slice_get-get_or xs i x.now h.0)

pub some-at : {A : Type 0} (xs : List A) (i : ℕ) → i < length xs → (x : A) × (slice_get xs i ≡ Some x)
some-at [] i l = absurd (omega arith)
some-at (x ∷ xs) zero l = (x, refl)
some-at (x ∷ xs) (suc i) l = some-at xs i (omega arith)

-- what the first of some have and all behind them, each has
pub each-half : {X : Type 0} (xs : List X) (n : ℕ) (P : ℕ → X → Type 0) → ((i : ℕ) (x : X) → i < n → slice_get xs i ≡ Some x → P i x)
    → ((j : ℕ) (x : X) → slice_get xs (n + j) ≡ Some x → P (n + j) x) → (i : ℕ) (x : X) → slice_get xs i ≡ Some x → P i x
each-half xs n P low high i x at = grind (arith, cases_lt i n, low i x, high (i - n) x)
