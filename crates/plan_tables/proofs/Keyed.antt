-- The values of a list with keys.
use Rattle.std.proofs.Common.{◌≡◌, ℕ, ◌+◌, List, [], ◌∷◌, ◌++◌, map, refl, ap}
use Rattle.std.specs.List.{flat_map}
use Rattle.entity_map.specs.Keyed.{keyed_from}

-- what is made of the values alone
pub map_keyed : {K V X : Type 0} (at : ℕ → K) (f : V → X) (n : ℕ) (xs : List V) → map (λ (p : K × V). f p.1) (keyed_from at n xs) ≡ map f xs
map_keyed at f n [] = refl
map_keyed at f n (x ∷ xs) = ap (λ rest. f x ∷ rest) (map_keyed at f (n + 1) xs)

-- the values themselves
pub values_keyed : {K V : Type 0} (at : ℕ → K) (n : ℕ) (xs : List V) → map (λ (p : K × V). p.1) (keyed_from at n xs) ≡ xs
values_keyed at n [] = refl
values_keyed at n (x ∷ xs) = ap (λ rest. x ∷ rest) (values_keyed at (n + 1) xs)

pub flat_keyed : {K V X : Type 0} (at : ℕ → K) (f : V → List X) (n : ℕ) (xs : List V) → flat_map (λ (p : K × V). f p.1) (keyed_from at n xs) ≡ flat_map f xs
flat_keyed at f n [] = refl
flat_keyed at f n (x ∷ xs) = ap (λ rest. f x ++ rest) (flat_keyed at f (n + 1) xs)
