-- Lists that a view tells apart, and lines and rows that are told by a view.
use Rattle.std.proofs.Common.{◌≡◌, ◌∙◌, ℕ, suc, ◌+◌, List, [], ◌∷◌, ◌++◌, map, Option, None, Some, refl, sym, ap}
use Rattle.std.specs.Prelude.{slice_get, unwrap_or}
use Rattle.std.specs.List.{flat_map}
use Rattle.std.specs.Option.{option_map}
use Rattle.entity_map.specs.Keyed.{keyed_from}
use Rattle.entity_map.specs.Secondary.{Defaulted, value_at}
use Rattle.wasm_index.specs.Index.{number_of, index_of}
use Rattle.wasm_types.specs.ViewsTell.{Back, tells, all_back}

module _ {A B : Type 0} (view : A → B) where
  -- lines that are a function of a view
  pub lines-by : {C : Type 0} (line : A → List C) (by : B → List C) → ((x : A) → line x ≡ by (view x)) → (xs : List A) → flat_map line xs ≡ flat_map by (map view xs)
  lines-by line by is [] = refl
  lines-by line by is (x ∷ xs) = λ i. is x i ++ lines-by line by is xs i

  pub lines-told : {C : Type 0} (line : A → List C) (by : B → List C) → ((x : A) → line x ≡ by (view x)) → (xs ys : List A) → map view xs ≡ map view ys
      → flat_map line xs ≡ flat_map line ys
  lines-told line by is xs ys same = lines-by line by is xs ∙ ap (flat_map by) same ∙ sym (lines-by line by is ys)

  -- rows that are a function of a view
  rows-by : {C : Type 0} (row : A → C) (by : B → C) → ((x : A) → row x ≡ by (view x)) → (xs : List A) → map row xs ≡ map by (map view xs)
  rows-by row by is [] = refl
  rows-by row by is (x ∷ xs) = λ i. is x i ∷ rows-by row by is xs i

  pub rows-told : {C : Type 0} (row : A → C) (by : B → C) → ((x : A) → row x ≡ by (view x)) → (xs ys : List A) → map view xs ≡ map view ys
      → map row xs ≡ map row ys
  rows-told row by is xs ys same = rows-by row by is xs ∙ ap (map by) same ∙ sym (rows-by row by is ys)

  module _ {K : Type 0} (at : ℕ → K) where
    keyed-by : {C : Type 0} (line : K → A → List C) (by : K → B → List C) → ((k : K) (x : A) → line k x ≡ by k (view x)) → (n : ℕ) (xs : List A)
        → flat_map (λ p. line p.0 p.1) (keyed_from at n xs) ≡ flat_map (λ p. by p.0 p.1) (keyed_from at n (map view xs))
    keyed-by line by is n [] = refl
    keyed-by line by is n (x ∷ xs) = λ i. is (at n) x i ++ keyed-by line by is (n + 1) xs i

    pub keyed-told : {C : Type 0} (line : K → A → List C) (by : K → B → List C) → ((k : K) (x : A) → line k x ≡ by k (view x)) → (xs ys : List A) → map view xs ≡ map view ys
        → flat_map (λ p. line p.0 p.1) (keyed_from at 0 xs) ≡ flat_map (λ p. line p.0 p.1) (keyed_from at 0 ys)
    keyed-told line by is xs ys same =
        keyed-by line by is 0 xs ∙ ap (λ (vs : List B). flat_map (λ p. by p.0 p.1) (keyed_from at 0 vs)) same ∙ sym (keyed-by line by is 0 ys)

  -- lists whose views are the same, where each value is had back
  pub all-told : Back view → (xs ys : List A) → map view xs ≡ map view ys → xs ≡ ys
  all-told back xs ys same = tells (all_back back) xs ys same

-- ---- lines of what a map finds, where nothing has no line

module _ {K V C : Type 0} (at : ℕ → K) (line : K → Option V → List C) (none : (k : K) → line k None ≡ []) where
  abbrev lines_from : ℕ → List (Option V) → List C
  lines_from start xs = flat_map (λ (p : K × Option V). line p.0 p.1) (keyed_from at start xs)

  none-first : (start : ℕ) (xs : List (Option V)) → lines_from start (None ∷ xs) ≡ lines_from (start + 1) xs
  none-first start xs = ap (λ (l : List C). l ++ lines_from (start + 1) xs) (none (at start))

  lines-at : (start : ℕ) (xs ys : List (Option V)) → ((i : ℕ) → unwrap_or (slice_get xs i) None ≡ unwrap_or (slice_get ys i) None)
      → lines_from start xs ≡ lines_from start ys
  lines-at start [] [] same = refl
  lines-at start [] (y ∷ ys) same =
      lines-at (start + 1) [] ys (λ i. same (suc i)) ∙ sym (none-first start ys) ∙ ap (λ (o : Option V). lines_from start (o ∷ ys)) (same 0)
  lines-at start (x ∷ xs) [] same =
      ap (λ (o : Option V). lines_from start (o ∷ xs)) (same 0) ∙ none-first start xs ∙ lines-at (start + 1) xs [] (λ i. same (suc i))
  lines-at start (x ∷ xs) (y ∷ ys) same = λ i. line (at start) (same 0 i) ++ lines-at (start + 1) xs ys (λ k. same (suc k)) i

  -- they are told by what is found at each place
  pub found-told : (m n : Defaulted (Option V)) → m.default ≡ None → n.default ≡ None → ((index : ℕ) → value_at m index ≡ value_at n index)
      → lines_from 0 m.items ≡ lines_from 0 n.items
  found-told m n a b same =
      lines-at 0 m.items n.items (λ i. ap (unwrap_or (slice_get m.items i)) (sym a) ∙ same i ∙ ap (unwrap_or (slice_get n.items i)) b)

-- ---- ways back

pub index-back : {Space : Type 0} → Back (number_of {Space = Space})
index-back = record { back = index_of; is = λ x. refl }

pub option-back : {A B : Type 0} {view : A → B} → Back view → Back (option_map view)
option-back {A} {B} {view} b = record { back = option_map b.back; is = is } where
  is : (x : Option A) → option_map b.back (option_map view x) ≡ x
  is None = refl
  is (Some x) = ap Some (b.is x)
