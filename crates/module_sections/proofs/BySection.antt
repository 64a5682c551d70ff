-- The lists of a module, one section after another.
use Rattle.std.proofs.Common.{◌≡◌, ◌∙◌, append_assoc, ℕ, ◌+◌, ◌<◌, List, [], ◌∷◌, ◌++◌, length, map, take, get_or, sym, ap, subst, arith}
use Rattle.std.specs.Prelude.{All}
use Rattle.std.specs.List.{flat_map}
use Rattle.std.proofs.lemmas.List.{append-nil, length-map, map_more, map_push, take_more, get_or-map}
use Rattle.std.proofs.lemmas.List.Concat.{flat_map-append}

-- what is true of each item as it is viewed
pub at-item : {X Y : Type 0} (P : Y → Type 0) (view : X → Y) (xs : List X) (i : ℕ) (x : X) → i < length xs → x ≡ get_or xs i x
    → All P (map view xs) → P (view x)
at-item P view xs i x lt is all =
    subst P (get_or-map view xs i x (view x) lt ∙ ap view (sym is)) (all i (view x) (let long = length-map xs view in omega (arith, long)))

pub item-more : {X Y : Type 0} (view : X → Y) (xs : List X) (i : ℕ) (x : X) → i < length xs → x ≡ get_or xs i x
    → map view (take (i + 1) xs) ≡ map view (take i xs) ++ view x ∷ []
item-more view xs i x lt is = cc (map_more view xs i x lt)

-- what is made of one item more is added
pub made-more : {X Y Z W : Type 0} (see : Z → W) (made : Y → W) (view : X → Y) (start now after : List Z) (z : Z) (xs : List X) (i : ℕ) (x : X)
    → i < length xs → x ≡ get_or xs i x → see z ≡ made (view x) → after ≡ now ++ z ∷ []
    → map see now ≡ map see start ++ map made (map view (take i xs)) → map see after ≡ map see start ++ map made (map view (take (i + 1) xs))
made-more see made view start now after z xs i x lt at is pushed before =
    let front = map view (take i xs) in
    cc (item-more view xs i x lt at, map_push see now z, map_push made front (view x), append_assoc (map see start) (map made front) (made (view x) ∷ []))

-- what one section more gives
pub section-push : {X Y A : Type 0} (f : Y → List A) (view : X → Y) (xs : List X) (x : X)
    → flat_map f (map view (xs ++ x ∷ [])) ≡ flat_map f (map view xs) ++ f (view x)
section-push f view xs x = rw (map_push view xs x, flat_map-append f (map view xs) (view x ∷ [])) (simp append-nil)

pub section-more : {X Y A : Type 0} (f : Y → List A) (view : X → Y) (xs : List X) (i : ℕ) (x : X) → i < length xs → x ≡ get_or xs i x
    → flat_map f (map view (take (i + 1) xs)) ≡ flat_map f (map view (take i xs)) ++ f (view x)
section-more f view xs i x lt is = cc (take_more xs i x lt, section-push f view (take i xs) x)
