-- What holds of each element of a list.
use Rattle.std.proofs.Common.{◌≡◌, ◌↔◌, ℕ, ◌+◌, ◌<◌, Bool, false, List, [], ◌∷◌, ◌++◌, length, map, take, get_or, All, IsTrue, sym, ap, subst, ◌∙◌}
use Rattle.std.proofs.lemmas.List.{map_more}
use Rattle.std.specs.List.{flat_map}
use Rattle.std.proofs.lemmas.List.Elements.{All-nil, All-cons, All-head, All-tail, All-append, All-map, All-same, All-rest, All-get_or, All-push}

-- ---- parts of lists

-- all of two lists joined
pub All-joined : {X : Type 0} (P : X → Type 0) (xs ys : List X) → All P (xs ++ ys) ↔ (All P xs × All P ys)
All-joined {X = X} P xs ys = (λ all. (left xs all, right xs all), λ both. All-append P xs ys both.0 both.1) where
  left : (zs : List X) → All P (zs ++ ys) → All P zs
  left [] all = All-nil P
  left (z ∷ zs) all = All-cons P z zs (All-head P z (zs ++ ys) all) (left zs (All-tail P z (zs ++ ys) all))

  right : (zs : List X) → All P (zs ++ ys) → All P ys
  right [] all = all
  right (z ∷ zs) all = right zs (All-tail P z (zs ++ ys) all)

pub All-from_map : {X Y : Type 0} (P : X → Type 0) (f : Y → X) (ys : List Y) → All P (map f ys) → All (λ y. P (f y)) ys
All-from_map P f [] all = All-nil (λ y. P (f y))
All-from_map P f (y ∷ ys) all = All-cons (λ z. P (f z)) y ys (All-head P (f y) (map f ys) all) (All-from_map P f ys (All-tail P (f y) (map f ys) all))

-- all of what each element has
pub All-parts : {X Y : Type 0} (P : X → Type 0) (f : Y → List X) (ys : List Y) → All P (flat_map f ys) ↔ All (λ y. All P (f y)) ys
All-parts P f [] = (λ all. All-nil (λ y. All P (f y)), λ all. All-nil P)
All-parts {Y = Y} P f (y ∷ ys) =
    let Q : Y → Type 0 = λ y. All P (f y) in
    let joined = All-joined P (f y) (flat_map f ys) in
    let rest = All-parts P f ys in (
      λ all. let both = joined.0 all in All-cons Q y ys both.0 (rest.0 both.1),
      λ all. joined.1 (All-head Q y ys all, rest.1 (All-tail Q y ys all)),
    )

-- ---- tests

-- a test of the values that a view gives
pub tells_of_map : {X Y : Type 0} (P : X → Type 0) (f : Y → X) (ys : List Y) (b : Bool) → IsTrue b ↔ All (λ y. P (f y)) ys
    → IsTrue b ↔ All P (map f ys)
tells_of_map P f ys b tells = (λ answered. All-map P f ys (tells.0 answered), λ all. tells.1 (All-from_map P f ys all))

-- ---- loops over a list

-- W says that all hold. While each has held so far, W holds exactly where the remaining ones hold
module _ {X : Type 0} (P : X → Type 0) (W : Type 0) (left rest : List X) (x : X) (at : left ≡ x ∷ rest) (tells : All P left ↔ W) where
  -- one more holds
  pub left_more : P x → All P rest ↔ W
  left_more here = (λ others. tells.0 (All-same P left (x ∷ rest) at (All-cons P x rest here others)), λ all. All-rest P x rest left at (tells.1 all))

  -- one fails
  pub left_fails : (b : Bool) → b ≡ false → IsTrue b ↔ P x → IsTrue false ↔ W
  left_fails b is one = (λ answered. absurd (cc), λ all. absurd (fails (one.1 (All-head P x rest (All-same P (x ∷ rest) left (sym at) (tells.1 all)))))) where
    fails : IsTrue b → ⊥
    fails holds = absurd (cc)

-- one entry more
pub items_more : {X Y : Type 0} (P : X → Type 0) (f : Y → X) (ys : List Y) (k : ℕ) (y : Y) → k < length ys → y ≡ get_or ys k y → P (f y)
    → All P (map f (take k ys)) → All P (map f (take (k + 1) ys))
items_more P f ys k y lt at here before =
    All-same P _ _ (map_more f ys k y lt ∙ ap (λ x. map f (take k ys) ++ f x ∷ []) (sym at)) (All-push P (map f (take k ys)) (f y) before here)

-- one entry fails
pub items_fail : {X Y : Type 0} (P : X → Type 0) (f : Y → X) (ys : List Y) (k : ℕ) (y : Y) → k < length ys → y ≡ get_or ys k y → (P (f y) → ⊥)
    → All P (map f ys) → ⊥
items_fail P f ys k y lt at fails all = fails (subst (λ x. P (f x)) (sym at) (All-get_or (λ x. P (f x)) ys k y lt (All-from_map P f ys all)))
