-- The first entry of a function, where one more is appended to the others.
use Rattle.std.proofs.Common.{◌≡◌, ℕ, List, [], ◌∷◌, ◌++◌, Bool, true, false, cond, eqb, Option, Some, None, refl, sym, subst, ◌∙◌, inl, inr}
use Rattle.std.specs.Option.{option_or}
use Rattle.std.specs.Map.{lookup}
use Rattle.std.proofs.lemmas.Bool.{cases_eq, eq-eqb, ne_eqb}
use Rattle.module_customs.specs.Kept.{kept_hint, no_function}

or_split : {X : Type 0} (t : Bool) (x : X) (longer shorter extra : Option X) → longer ≡ option_or shorter extra
    → cond t (Some x) longer ≡ option_or (cond t (Some x) shorter) extra
or_split true x longer shorter extra e = refl
or_split false x longer shorter extra e = e

lookup-push : {X : Type 0} (test : ℕ → Bool) (xs : List (ℕ × X)) (k : ℕ) (v : X)
    → lookup test (xs ++ (k, v) ∷ []) ≡ option_or (lookup test xs) (cond (test k) (Some v) None)
lookup-push test [] k v = refl
lookup-push test (x ∷ xs) k v =
    or_split (test x.0) x.1 (lookup test (xs ++ (k, v) ∷ [])) (lookup test xs) (cond (test k) (Some v) None) (lookup-push test xs k v)

or_none : {H : Type 0} (o : Option H) → option_or o None ≡ o
or_none (Some x) = refl
or_none None = refl

or_same : {H : Type 0} (t : Bool) (found extra : Option H) (w : H) → cond t None found ≡ Some w
    → cond t None (option_or found extra) ≡ cond t None found
or_same true found extra w e = refl
or_same false (Some x) extra w e = refl
or_same false None extra w e = absurd cc

module _ {H : Type 0} (xs : List (ℕ × H)) (k : ℕ) (v : H) (q : ℕ) where
  pub hint_here : (k ≡ no_function → ⊥) → kept_hint xs q ≡ None → k ≡ q → kept_hint (xs ++ (k, v) ∷ []) q ≡ Some v
  unfolding kept_hint
  hint_here real none e =
      let not : eqb q no_function ≡ false = ne_eqb q no_function (λ f. real (e ∙ f)) in
      let given : cond (eqb q no_function) None (lookup (eqb q) xs) ≡ None = none in
      let absent : lookup (eqb q) xs ≡ None = rw not at given in
      let here : eqb q k ≡ true = eq-eqb q k (sym e) in
      rw (lookup-push (eqb q) xs k v, not, absent, here) refl

  pub hint_elsewhere : (k ≡ q → ⊥) → kept_hint (xs ++ (k, v) ∷ []) q ≡ kept_hint xs q
  unfolding kept_hint
  hint_elsewhere ne =
      let apart : eqb q k ≡ false = ne_eqb q k (λ e. ne (sym e)) in
      rw (lookup-push (eqb q) xs k v, apart, or_none (lookup (eqb q) xs)) refl

  again_here : (w : H) → kept_hint xs q ≡ Some w → kept_hint (xs ++ (k, v) ∷ []) q ≡ kept_hint xs q
  unfolding kept_hint
  again_here w has = rw (lookup-push (eqb q) xs k v) (or_same (eqb q no_function) (lookup (eqb q) xs) (cond (eqb q k) (Some v) None) w has)

  pub hint_again : (w : H) → kept_hint xs k ≡ Some w → kept_hint (xs ++ (k, v) ∷ []) q ≡ kept_hint xs q
  hint_again w has = elim (cases_eq k q) [
    | inl e ↦ again_here w (let P : ℕ → Type 0 = λ n. kept_hint xs n ≡ Some w in subst P e has)
    | inr ne ↦ hint_elsewhere ne
  ]

  nowhere : q ≡ no_function → kept_hint (xs ++ (k, v) ∷ []) q ≡ kept_hint xs q
  unfolding kept_hint
  nowhere e = let is : eqb q no_function ≡ true = eq-eqb q no_function e in rw is refl

  pub hint_nowhere : k ≡ no_function → kept_hint (xs ++ (k, v) ∷ []) q ≡ kept_hint xs q
  hint_nowhere e = elim (cases_eq k q) [ inl f ↦ nowhere (sym f ∙ e) | inr ne ↦ hint_elsewhere ne ]

pub no_hint_yet : {H : Type 0} (q : ℕ) → None ≡ kept_hint {H = H} [] q
unfolding kept_hint
no_hint_yet {H} q = either (eqb q no_function) where
  either : (t : Bool) → None ≡ cond {A = Option H} t None None
  either true = refl
  either false = refl
