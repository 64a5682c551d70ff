-- The items of two concatenated lists, each converted: the parts where the lists join.
use Rattle.std.proofs.Common.{◌≡◌, ◌∙◌, List, ◌++◌, length, map, take, drop, refl, sym, ap}
use Rattle.std.proofs.lemmas.List.{map-append, length-map, take-map, drop-map}
use Rattle.type_spec.specs.ListLaws.{map-twice}
use Rattle.std.proofs.Math.Seq.{take-append_seam, drop-append_seam}

module _ {A B : Type 0} (f : A → B) (ps rs : List A) where
  pub first-converted : take (length ps) (map f (ps ++ rs)) ≡ map f ps
  first-converted = ap (take (length ps)) (map-append f ps rs) ∙ ap (λ n. take n (map f ps ++ map f rs)) (sym (length-map ps f))
      ∙ take-append_seam (map f ps) (map f rs)

  pub second-converted : drop (length ps) (map f (ps ++ rs)) ≡ map f rs
  second-converted = ap (drop (length ps)) (map-append f ps rs) ∙ ap (λ n. drop n (map f ps ++ map f rs)) (sym (length-map ps f))
      ∙ drop-append_seam (map f ps) (map f rs)

-- two concatenated lists of parts, of which each was converted
module _ {A B C D : Type 0} (made : D → C) (f : B → C) (view : A → B) (ps rs : List A) (ys : List D)
    (is : map made ys ≡ map (λ x. f (view x)) (ps ++ rs)) where
  pub first-part : map made (take (length ps) ys) ≡ map f (map view ps)
  first-part =
      sym (take-map made (length ps) ys) ∙ ap (take (length ps)) is ∙ first-converted (λ x. f (view x)) ps rs
      ∙ sym (map-twice view f (λ x. f (view x)) (λ x. refl) ps)

  pub second-part : map made (drop (length ps) ys) ≡ map f (map view rs)
  second-part =
      sym (drop-map made (length ps) ys) ∙ ap (drop (length ps)) is ∙ second-converted (λ x. f (view x)) ps rs
      ∙ sym (map-twice view f (λ x. f (view x)) (λ x. refl) rs)
