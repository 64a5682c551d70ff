-- Searches for the first index that is not below a bound.
use Rattle.std.proofs.Common.{◌≡◌, ◌<◌, ◌≤◌, ℕ, List, [], ◌∷◌, ◌++◌, map, Option, Some, None, All, sym, subst}
use Rattle.std.specs.Prelude.{option_to_list}
use Rattle.std.specs.List.{flat_map}
use Rattle.std.specs.Option.{option_map}
use Rattle.std.proofs.lemmas.List.{append-nil}
use Rattle.std.proofs.lemmas.List.Folds.{flat_map-map}
use Rattle.std.proofs.lemmas.List.Elements.{All-nil, All-cons, All-append, Contains-append_left, Contains-append_right, Contains-push}
use Rattle.wasm_spec.specs.declared.types.UnpackedIndex.{UnpackedIndex}
use Rattle.rule_spec.specs.TypeRules.{IsBelow}
use Rattle.form_reader.specs.declared.form.ConstExpr.{ConstExpr}
use Rattle.form_reader.specs.Views.{expression_of}
use Rattle.rule_breaks.specs.Named.{expression_types}
use Rattle.rule_breaks.specs.Past.{FindsPast, FindsMissing}

pub past_left : (b : ℕ) (xs ys : List UnpackedIndex) (i : UnpackedIndex) → FindsPast b xs (Some i) → FindsPast b (xs ++ ys) (Some i)
past_left b xs ys i found = (Contains-append_left xs ys i found.0, found.1)

pub past_right : (b : ℕ) (xs ys : List UnpackedIndex) (r : Option UnpackedIndex) → FindsPast b xs None → FindsPast b ys r → FindsPast b (xs ++ ys) r
past_right b xs ys None all found = All-append (IsBelow b) xs ys all found
past_right b xs ys (Some i) all found = (Contains-append_right xs ys i found.0, found.1)

pub past_none : (b : ℕ) → FindsPast b [] None
past_none b = All-nil (IsBelow b)

pub past_one : (b : ℕ) (i : UnpackedIndex) → ¬ IsBelow b i → FindsPast b (i ∷ []) (Some i)
past_one b i past = (Contains-push [] i, past)

pub below_one : (b : ℕ) (i : UnpackedIndex) → IsBelow b i → FindsPast b (i ∷ []) None
below_one b i below = All-cons (IsBelow b) i [] below (All-nil (IsBelow b))

-- what is found among the things that remain is found among all
pub record Remains {X : Type 0} (b : ℕ) (f : X → List UnpackedIndex) (left all : List X) : Type 0 where
  pub finds : (r : Option UnpackedIndex) → FindsPast b (flat_map f left) r → FindsPast b (flat_map f all) r

module _ {X : Type 0} (b : ℕ) (f : X → List UnpackedIndex) (left rest all : List X) (x : X) (remains : Remains b f left all) (at : left ≡ x ∷ rest) where
  pub remains_more : FindsPast b (f x) None → Remains b f rest all
  remains_more none = record {
    finds = λ r found.
        remains.finds r (subst (λ l. FindsPast b (flat_map f l) r) (sym at) (past_right b (f x) (flat_map f rest) r none found));
  }

  pub remains_found : (i : UnpackedIndex) → FindsPast b (f x) (Some i) → FindsPast b (flat_map f all) (Some i)
  remains_found i found =
      remains.finds (Some i) (subst (λ l. FindsPast b (flat_map f l) (Some i)) (sym at) (past_left b (f x) (flat_map f rest) i found))

pub remains_ended : {X : Type 0} (b : ℕ) (f : X → List UnpackedIndex) (left all : List X) → Remains b f left all → left ≡ [] → FindsPast b (flat_map f all) None
remains_ended b f left all remains none = remains.finds None (subst (λ l. FindsPast b (flat_map f l) None) (sym none) (past_none b))

-- ---- plain indices

-- what is missing among the indices that remain is missing among all
abbrev pub MissingRemains : ℕ → List ℕ → List ℕ → Type 0
MissingRemains n left all = (r : Option ℕ) → FindsMissing n left r → FindsMissing n all r

module _ (n : ℕ) (left rest all : List ℕ) (x : ℕ) (remains : MissingRemains n left all) (at : left ≡ x ∷ rest) where
  pub missing_more : x < n → MissingRemains n rest all
  missing_more below None found = remains None (subst (λ l. FindsMissing n l None) (sym at) (All-cons (λ i. i < n) x rest below found))
  missing_more below (Some i) found =
      remains (Some i) (subst (λ l. FindsMissing n l (Some i)) (sym at) (Contains-append_right (x ∷ []) rest i found.0, found.1))

  pub missing_found : n ≤ x → FindsMissing n all (Some x)
  missing_found past =
      remains (Some x) (subst (λ l. FindsMissing n l (Some x)) (sym at) (Contains-append_left (x ∷ []) rest x (Contains-push [] x), past))

pub missing_ended : (n : ℕ) (left all : List ℕ) → MissingRemains n left all → left ≡ [] → FindsMissing n all None
missing_ended n left all remains none = remains None (subst (λ l. FindsMissing n l None) (sym none) (All-nil (λ i. i < n)))

-- nothing was found
pub none_past : (n m : ℕ) (named : List UnpackedIndex) (r : Option UnpackedIndex) → n ≡ m → r ≡ None → FindsPast n named r → All (IsBelow m) named
none_past n m named r same is found = subst (λ k. FindsPast k named None) same (subst (FindsPast n named) is found)

-- an expression that there may be comes after other indices
pub past_initialiser : (b : ℕ) (named : List UnpackedIndex) (o : Option ConstExpr) (e : ConstExpr) (r : Option UnpackedIndex) → o ≡ Some e → FindsPast b named None
    → FindsPast b (expression_types (expression_of e)) r → FindsPast b (named ++ flat_map expression_types (option_to_list (option_map expression_of o))) r
past_initialiser b named o e r is none found =
    subst (λ p. FindsPast b (named ++ flat_map expression_types (option_to_list (option_map expression_of p))) r) (sym is)
    (past_right b named (expression_types (expression_of e) ++ []) r none
    (subst (λ l. FindsPast b l r) (sym (append-nil (expression_types (expression_of e)))) found))

-- what is found through a view of the things, where they are the same and so is what is found
pub past_slice : {A B : Type 0} (b : ℕ) (h : B → List UnpackedIndex) (v : A → B) (xs ys : List A) (r s : Option UnpackedIndex) → ys ≡ xs → r ≡ s
    → FindsPast b (flat_map (λ x. h (v x)) ys) r → FindsPast b (flat_map h (map v xs)) s
past_slice b h v xs ys r s are is found =
    subst (λ l. FindsPast b l s) (sym (flat_map-map h v xs)) (subst (FindsPast b (flat_map (λ x. h (v x)) xs)) is (subst (λ l. FindsPast b (flat_map (λ x. h (v x)) l) r) are found))
