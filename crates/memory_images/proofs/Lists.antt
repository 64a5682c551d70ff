-- The item at a position of a list.
use Rattle.std.proofs.Common.{◌≡◌, ℕ, zero, suc, ◌<◌, List, [], ◌∷◌, length, map, get_or, All, AllPairs, Option, Some, None, refl, subst, arith}
use Rattle.std.proofs.lemmas.List.{length-map, get_or-map}
use Rattle.std.specs.Prelude.{slice_get}
use Rattle.std.proofs.lemmas.Option.{get_or_from_slice_get, slice_get_within}

pub none_some : {A C : Type 0} (o : Option A) (x : A) → o ≡ None → o ≡ Some x → C
none_some o x n s = absurd cc

pub two_some : {A : Type 0} (o : Option A) (x y : A) → o ≡ Some x → o ≡ Some y → x ≡ y
two_some o x y e f = cc

pub all_at : {X : Type 0} (P : X → Type 0) (xs : List X) (i : ℕ) (x : X) → All P xs → slice_get xs i ≡ Some x → P x
all_at P xs i x all g = subst P (get_or_from_slice_get xs i x x g) (all i x (slice_get_within xs i x g))

pub pair_at : {X : Type 0} (R : X → X → Type 0) (xs : List X) (i j : ℕ) (x y : X) → AllPairs R xs → slice_get xs i ≡ Some x → slice_get xs j ≡ Some y → i < j → R x y
pair_at {X} R xs i j x y all g h lt = grind (arith, get_or_from_slice_get, slice_get_within)

pub all_mapped : {A B : Type 0} (f : A → B) (P : B → Type 0) (xs : List A) (i : ℕ) (d : A) → All P (map f xs) → i < length xs → P (f (get_or xs i d))
all_mapped f P xs i d all l = grind (arith, length-map xs f, get_or-map f xs i d (f d) l)

pub some_at : {A : Type 0} (xs : List A) (i : ℕ) → i < length xs → (x : A) × (slice_get xs i ≡ Some x)
some_at [] i l = absurd (omega arith)
some_at (x ∷ xs) zero l = (x, refl)
some_at (x ∷ xs) (suc i) l = some_at xs i (omega arith)
