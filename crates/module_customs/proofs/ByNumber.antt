-- Maps whose keys are numbers, and the names that they keep.
use Rattle.std.proofs.Common.{◌≡◌, ℕ, zero, suc, ◌+◌, ◌<◌, ◌≤◌, List, [], ◌∷◌, ◌++◌, map, take, get_or, length, Bool, cond, eqb, Option, None, Some, nat_eq, refl, sym, ap, subst, ◌∙◌, arith, inl, inr, append_assoc}
use Rattle.std.specs.Prelude.{nat_lt}
use Rattle.std.specs.BTreeMap.{BTreeMap, get, is_at}
use Rattle.std.specs.Map.{lookup, update, update_all}
use Rattle.std.specs.Option.{option_map}
use Rattle.std.specs.Ordering.{nat_cmp, is_eq, eq_by_cmp}
use Rattle.std.specs.declared.cmp.Ordering.{Ordering}
use Rattle.std.proofs.lemmas.Bool.{cases_eq, cases_order, eq-eqb, ne_eqb, le-leb, lt-leb, lt-ltb, le-ltb}
use Rattle.std.proofs.lemmas.List.{append-nil, map_more, reverse-append}
use Rattle.std.proofs.lemmas.List.Elements.{filter-append}
use Rattle.module_customs.specs.Kept.{last_at}
use Rattle.module_customs.specs.Names.{Text, at_number, HasLast, below}

eq_at : (k q : ℕ) → is_eq (nat_cmp k q) ≡ eqb k q
eq_at k q = elim (cases_order k q) [
  | inl e ↦ rw (eq-eqb k q e, lt-leb (suc k) q (omega arith)) refl
  | inr (inl lt) ↦ rw (ne_eqb k q (λ e. absurd (omega arith)), le-leb (suc k) q (omega arith)) refl
  | inr (inr gt) ↦ rw (ne_eqb k q (λ e. absurd (omega arith)), lt-leb (suc k) q (omega arith)) refl
]

lookup-same : {K X : Type 0} (f g : K → Bool) → ((k : K) → f k ≡ g k) → (es : List (K × X)) → lookup f es ≡ lookup g es
lookup-same f g same [] = refl
lookup-same f g same (e ∷ es) = λ i. cond (same e.0 i) (Some e.1) (lookup-same f g same es i)

-- ---- a value that is written

module _ {K : Type 0} (number : K → ℕ) (of : ℕ → K) (there : (n : ℕ) → number (of n) ≡ n) (cmp : K → K → Ordering)
    (by : (a b : K) → cmp a b ≡ nat_cmp (number a) (number b)) where
  test-is : (a b : K) → is_eq (cmp a b) ≡ eqb (number a) (number b)
  test-is a b = ap is_eq (by a b) ∙ eq_at (number a) (number b)

  pub got : {X : Type 0} (kept : BTreeMap K X) (n : ℕ) → get cmp kept (of n) ≡ at_number number kept n
  got kept n = lookup-same (λ k. is_eq (cmp (of n) k)) (λ k. nat_eq n (number k))
      (λ k. test-is (of n) k ∙ ap (λ x. eqb x (number k)) (there n)) kept.entries

  written-by : {X : Type 0} (old new : BTreeMap K X) (k : K) (w : Option X) → ((q : K) → get cmp new q ≡ cond (is_at (cmp k) q) w (get cmp old q))
      → (n : ℕ) → at_number number new n ≡ cond (eqb (number k) n) w (at_number number old n)
  written-by old new k w writes n = sym (got new n) ∙ writes (of n)
      ∙ (λ i. cond ((test-is k (of n) ∙ ap (eqb (number k)) (there n)) i) w (got old n i))

pub written : {K X : Type 0} (number : K → ℕ) (of : ℕ → K) (there : (n : ℕ) → number (of n) ≡ n) (cmp : K → K → Ordering) (old new : BTreeMap K X) (k : K)
    (w : Option X) → ((q : K) → get cmp new q ≡ cond (is_at (cmp k) q) w (get cmp old q))
    → ((a b : K) → cmp a b ≡ nat_cmp (number a) (number b)) → (n : ℕ) → at_number number new n ≡ cond (eqb (number k) n) w (at_number number old n)
written number of there cmp old new k w writes by = written-by number of there cmp by old new k w writes

-- ---- a later name

last-push : {X : Type 0} (xs : List (ℕ × X)) (k : ℕ) (v : X) (q : ℕ) → last_at (xs ++ (k, v) ∷ []) q ≡ cond (eqb q k) (Some v) (last_at xs q)
last-push xs k v q = rw (reverse-append xs ((k, v) ∷ [])) refl

pub last-more : (names : List (ℕ × List ℕ)) (old new : ℕ → Option Text) (k : ℕ) (v : Text)
    → ((n : ℕ) → new n ≡ cond (eqb k n) (Some v) (old n)) → HasLast names old → HasLast (names ++ (k, v.now) ∷ []) new
last-more names old new k v writes has n =
    elim (cases_eq k n) [
      | inl e ↦ rw (writes n, last-push names k v.now n, eq-eqb k n e, eq-eqb n k (sym e)) refl
      | inr ne ↦ rw (writes n, last-push names k v.now n, ne_eqb k n ne, ne_eqb n k (λ e. ne (sym e))) (has n)
    ]

pub none-yet : {K : Type 0} (number : K → ℕ) (kept : BTreeMap K Text) → kept.entries ≡ [] → HasLast [] (at_number number kept)
none-yet number kept empty n = ap (λ es. option_map (λ (text : Text). text.now) (lookup (λ key. nat_eq n (number key)) es)) empty

-- names that are entered in turn
module _ {K : Type 0} (number : K → ℕ) (of : ℕ → K) (there : (n : ℕ) → number (of n) ≡ n) (cmp : K → K → Ordering)
    (by : (a b : K) → cmp a b ≡ nat_cmp (number a) (number b)) where
  abbrev entered : (K → Option Text) → List (K × Text) → ℕ → Option Text
  entered f xs n = update_all (eq_by_cmp cmp) f xs (of n)

  last-entered : (xs : List (K × Text)) (f : K → Option Text) (before : List (ℕ × List ℕ)) → HasLast before (λ n. f (of n))
      → HasLast (before ++ map (λ e. (number e.0, e.1.now)) xs) (entered f xs)
  last-entered [] f before has = subst (λ (l : List (ℕ × List ℕ)). HasLast l (λ n. f (of n))) (sym (append-nil before)) has
  last-entered (x ∷ xs) f before has =
      let one = last-more before (λ n. f (of n)) (entered f (x ∷ [])) (number x.0) x.1
      (λ n. (λ i. cond ((test-is number of there cmp by x.0 (of n) ∙ ap (eqb (number x.0)) (there n)) i) (Some x.1) (f (of n)))) has
      in subst (λ (l : List (ℕ × List ℕ)). HasLast l (entered f (x ∷ xs))) (append_assoc before ((number x.0, x.1.now) ∷ []) (map (λ e. (number e.0, e.1.now)) xs))
      (last-entered xs (λ q. entered-at f x q) (before ++ (number x.0, x.1.now) ∷ []) one)
    where
      entered-at : (K → Option Text) → K × Text → K → Option Text
      entered-at g y q = update (eq_by_cmp cmp) g y.0 (Some y.1) q

  pub last-made : (xs : List (K × Text)) (kept : BTreeMap K Text) (before : List (ℕ × List ℕ)) → HasLast before (λ _. None)
      → ((q : K) → get cmp kept q ≡ update_all (eq_by_cmp cmp) (λ _. None) xs q) → HasLast (before ++ map (λ e. (number e.0, e.1.now)) xs) (at_number number kept)
  last-made xs kept before has made n =
      ap (option_map (λ (text : Text). text.now)) (sym (got number of there cmp by kept n) ∙ made (of n)) ∙ last-entered xs (λ _. None) before has n

-- ---- over names, one after another

pub texts-more : {A B : Type 0} (view : A → B) (before : List B) (xs : List A) (k : ℕ) (d : A) → k < length xs
    → before ++ map view (take (k + 1) xs) ≡ (before ++ map view (take k xs)) ++ view (get_or xs k d) ∷ []
texts-more {B} view before xs k d lt = ap (λ (l : List B). before ++ l) (map_more view xs k d lt)
    ∙ sym (append_assoc before (map view (take k xs)) (view (get_or xs k d) ∷ []))

-- ---- below a bound

module _ {A X : Type 0} (view : A → ℕ × X) (bound : ℕ) (before : List (ℕ × X)) (xs : List A) (k : ℕ) (d : A) (lt : k < length xs) where
  abbrev one : ℕ × X
  one = view (get_or xs k d)

  abbrev now : List (ℕ × X)
  now = before ++ below bound (map view (take k xs))

  more : before ++ below bound (map view (take (k + 1) xs)) ≡ now ++ cond (nat_lt one.0 bound) (one ∷ []) []
  more = ap (λ (l : List (ℕ × X)). before ++ below bound l) (map_more view xs k d lt)
      ∙ ap (λ (l : List (ℕ × X)). before ++ l) (filter-append (λ (e : ℕ × X). nat_lt e.0 bound) (map view (take k xs)) (one ∷ []))
      ∙ sym (append_assoc before (below bound (map view (take k xs))) (cond (nat_lt one.0 bound) (one ∷ []) []))

  pub below-more : one.0 < bound → before ++ below bound (map view (take (k + 1) xs)) ≡ now ++ one ∷ []
  below-more lt = more ∙ ap (λ b. now ++ cond b (one ∷ []) []) (lt-ltb one.0 bound lt)

  pub below-same : bound ≤ one.0 → before ++ below bound (map view (take (k + 1) xs)) ≡ now
  below-same le = more ∙ ap (λ b. now ++ cond b (one ∷ []) []) (le-ltb one.0 bound le) ∙ append-nil now

pub take-through : {X : Type 0} (k : ℕ) (xs : List X) → length xs ≤ k → take k xs ≡ xs
take-through zero [] le = refl
take-through zero (x ∷ xs) le = absurd (omega arith)
take-through (suc k) [] le = refl
take-through {X} (suc k) (x ∷ xs) le = ap (λ (l : List X). x ∷ l) (take-through k xs (omega (arith, le)))
