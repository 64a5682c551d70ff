-- Sums over lists that are made of others.
use Rattle.std.proofs.Common.{◌≡◌, ◌≤◌, ℕ, Bool, true, false, List, [], ◌∷◌, length, map, Option, Some, None, sum_by, refl, arith}
use Rattle.std.specs.Prelude.{if◌then◌else◌}
use Rattle.std.specs.List.{filter, filter_map, cons_option}
use Rattle.std.proofs.lemmas.List.Sums.{sum_by-cons}

-- over what a function gives of each
pub sum-mapped : {X Y : Type 0} (f : X → Y) (g : Y → ℕ) (h : X → ℕ) → ((x : X) → h x ≡ g (f x)) → (xs : List X) → sum_by h xs ≡ sum_by g (map f xs)
sum-mapped f g h same [] = refl
sum-mapped f g h same (x ∷ xs) = omega (arith, same x, sum-mapped f g h same xs, sum_by-cons h x xs, sum_by-cons g (f x) (map f xs))

pub sum-filtered : {X : Type 0} (g : X → ℕ) (p : X → Bool) (xs : List X) → sum_by g (filter p xs) ≤ sum_by g xs
sum-filtered g p [] = omega arith
sum-filtered {X} g p (x ∷ xs) = by (p x) (sum-filtered g p xs) where
  by : (t : Bool) → sum_by g (filter p xs) ≤ sum_by g xs → sum_by g (if t then x ∷ filter p xs else filter p xs) ≤ sum_by g (x ∷ xs)
  by true rest = omega (arith, rest, sum_by-cons g x xs, sum_by-cons g x (filter p xs))
  by false rest = omega (arith, rest, sum_by-cons g x xs)

-- of what may be there
abbrev pub if_any : {Y : Type 0} → (Y → ℕ) → Option Y → ℕ
if_any g None = 0
if_any g (Some y) = g y

-- what is kept of each is no more than it
pub sum-kept : {X Y : Type 0} (f : X → Option Y) (g : Y → ℕ) (h : X → ℕ) → ((x : X) → if_any g (f x) ≤ h x) → (xs : List X) → sum_by g (filter_map f xs) ≤ sum_by h xs
sum-kept f g h below [] = omega arith
sum-kept {X} {Y} f g h below (x ∷ xs) = by (f x) (below x) (sum-kept f g h below xs) where
  by : (o : Option Y) → if_any g o ≤ h x → sum_by g (filter_map f xs) ≤ sum_by h xs → sum_by g (cons_option o (filter_map f xs)) ≤ sum_by h (x ∷ xs)
  by None one rest = omega (arith, rest, sum_by-cons h x xs)
  by (Some y) one rest = omega (arith, one, rest, sum_by-cons h x xs, sum_by-cons g y (filter_map f xs))

pub kept-few : {X Y : Type 0} (f : X → Option Y) (xs : List X) → length (filter_map f xs) ≤ length xs
kept-few f [] = omega arith
kept-few {X} {Y} f (x ∷ xs) = by (f x) (kept-few f xs) where
  by : (o : Option Y) → length (filter_map f xs) ≤ length xs → length (cons_option o (filter_map f xs)) ≤ length (x ∷ xs)
  by None rest = omega (arith, rest)
  by (Some y) rest = omega (arith, rest)
