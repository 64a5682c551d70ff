-- Facts of a list with one more item.
use Rattle.std.proofs.Common.{◌≡◌, ◌∙◌, ◌<◌, ◌+◌, ℕ, suc, List, [], ◌∷◌, ◌++◌, length, map, take, Option, Some, None, refl, ap, sym, get_or, arith}
use Rattle.std.proofs.Math.Seq.{take-suc}
use Rattle.std.proofs.lemmas.List.{map-append}
use Rattle.std.proofs.lemmas.List.Elements.{filter_map-append}
use Rattle.std.specs.List.{filter_map}
use Rattle.std.specs.Option.{option_to_list}

take-more : {X : Type 0} (xs : List X) (n : ℕ) (d : X) → n < length xs → take (n + 1) xs ≡ take n xs ++ get_or xs n d ∷ []
take-more xs n d lt = let one : n + 1 ≡ suc n = omega arith in rw one (take-suc xs n d lt)

-- items that are converted one by one, given as a copy `xs'` of the list
pub map-more : {X Y : Type 0} (f : X → Y) {xs xs' : List X} (n : ℕ) (d : X) {ys zs : List Y} {y : Y} → xs' ≡ xs → n < length xs'
    → ys ≡ map f (take n xs) → zs ≡ ys ++ y ∷ [] → y ≡ f (get_or xs' n d) → zs ≡ map f (take (n + 1) xs)
map-more f {xs} {xs'} n d {ys} {zs} {y} same lt before more last =
    more ∙ ap (λ ys. ys ++ y ∷ []) (before ∙ ap (λ xs. map f (take n xs)) (sym same)) ∙ ap (λ y. map f (take n xs') ++ y ∷ []) last
    ∙ sym (map-append f (take n xs') (get_or xs' n d ∷ [])) ∙ ap (map f) (sym (take-more xs' n d lt)) ∙ ap (λ xs. map f (take (n + 1) xs)) same

filter_map-one : {X Y : Type 0} (f : X → Option Y) (x : X) (gives : Option Y) → f x ≡ gives → filter_map f (x ∷ []) ≡ option_to_list (f x)
filter_map-one f x None is = rw is refl
filter_map-one f x (Some y) is = rw is refl

-- what is collected from them one by one
pub filter_map-more : {X Y : Type 0} (f : X → Option Y) {xs xs' : List X} (n : ℕ) (d : X) {ys zs : List Y} → xs' ≡ xs → n < length xs'
    → ys ≡ filter_map f (take n xs) → zs ≡ ys ++ option_to_list (f (get_or xs' n d)) → zs ≡ filter_map f (take (n + 1) xs)
filter_map-more f {xs} {xs'} n d same lt before more =
    let x = get_or xs' n d in
    more ∙ ap (λ ys. ys ++ option_to_list (f x)) (before ∙ ap (λ xs. filter_map f (take n xs)) (sym same))
    ∙ ap (λ ys. filter_map f (take n xs') ++ ys) (sym (filter_map-one f x (f x) refl)) ∙ sym (filter_map-append f (take n xs') (x ∷ []))
    ∙ ap (filter_map f) (sym (take-more xs' n d lt)) ∙ ap (λ xs. filter_map f (take (n + 1) xs)) same
