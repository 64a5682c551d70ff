-- Two lists place by place, where one grows at its end.
use Rattle.std.proofs.Common.{◌≡◌, ◌∙◌, ◌<◌, ◌+◌, ℕ, List, [], ◌∷◌, ◌++◌, length, take, get_or, All, sym, ap, subst, append_assoc}
use Rattle.std.specs.List.{AllZip}
use Rattle.std.proofs.lemmas.List.{take_more}
use Rattle.std.proofs.lemmas.List.Elements.{All-nil, All-cons}
use Rattle.std.proofs.lemmas.Slice.Zip.{all_zipped_more}

module _ {A B : Type 0} (R : A → B → Type 0) where
  -- one more item of the first, with the item that is pushed
  pub zip-more : (xs : List A) (ys : List B) (i : ℕ) (d : A) (y : B) → i < length xs → AllZip R (take i xs) ys → R (get_or xs i d) y
      → AllZip R (take (i + 1) xs) (ys ++ y ∷ [])
  zip-more xs ys i d y less before fits =
      subst (λ (zs : List A). AllZip R zs (ys ++ y ∷ [])) (sym (take_more xs i d less)) (all_zipped_more R (take i xs) ys (get_or xs i d) y before fits)

  -- the same behind other items
  pub zip-behind : (before xs : List A) (ys : List B) (i : ℕ) (d : A) (y : B) → i < length xs → AllZip R (before ++ take i xs) ys → R (get_or xs i d) y
      → AllZip R (before ++ take (i + 1) xs) (ys ++ y ∷ [])
  zip-behind before xs ys i d y less zipped fits =
      subst (λ (zs : List A). AllZip R zs (ys ++ y ∷ []))
      (append_assoc before (take i xs) (get_or xs i d ∷ []) ∙ ap (λ (zs : List A). before ++ zs) (sym (take_more xs i d less)))
      (all_zipped_more R (before ++ take i xs) ys (get_or xs i d) y zipped fits)

  -- each item of the first has one
  pub zip-left : (xs : List A) (ys : List B) → AllZip R xs ys → All (λ (x : A). (y : B) × R x y) xs
  zip-left [] ys zipped = All-nil (λ (x : A). (y : B) × R x y)
  zip-left (x ∷ xs) [] zipped = absurd zipped
  zip-left (x ∷ xs) (y ∷ ys) zipped = All-cons (λ (x : A). (y : B) × R x y) x xs (y, zipped.0) (zip-left xs ys zipped.1)
