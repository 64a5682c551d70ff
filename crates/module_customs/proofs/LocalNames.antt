-- Names of the locals of functions, entered one function after another.
use Rattle.std.proofs.Common.{◌≡◌, ℕ, ◌<◌, List, [], ◌∷◌, ◌++◌, length, Bool, true, false, cond, eqb, Option, Some, None, refl, sym, ap, subst, ◌∙◌, arith, inl, inr}
use Rattle.std.specs.BTreeMap.{BTreeMap}
use Rattle.std.proofs.lemmas.Bool.{cases_eq, eq-eqb, ne_eqb}
use Rattle.std.proofs.lemmas.Grind.{flat_map-append}
use Rattle.std.proofs.lemmas.List.{append-nil, length-append}
use Rattle.module_customs.specs.Names.{Text, at_number, HasLast, AreLocals, local_names}

abbrev Entries : Type 0
Entries = List (ℕ × List (ℕ × List ℕ))

locals-push : (before : Entries) (f : ℕ) (names : List (ℕ × List ℕ)) (n : ℕ)
    → local_names (before ++ (f, names) ∷ []) n ≡ local_names before n ++ cond (eqb f n) names []
locals-push before f names n =
    let part : ℕ × List (ℕ × List ℕ) → List (ℕ × List ℕ) = λ e. cond (eqb e.0 n) e.1 [] in
    flat_map-append part before ((f, names) ∷ [])
    ∙ ap (λ (l : List (ℕ × List ℕ)). local_names before n ++ l) (append-nil (cond (eqb f n) names []))

locals-others : (before : Entries) (f : ℕ) (names : List (ℕ × List ℕ)) (n : ℕ) → (f ≡ n → ⊥)
    → local_names (before ++ (f, names) ∷ []) n ≡ local_names before n
locals-others before f names n ne = locals-push before f names n
    ∙ ap (λ b. local_names before n ++ cond b names []) (ne_eqb f n ne) ∙ append-nil (local_names before n)

-- a function's entry is replaced
pub locals-kept : (before : Entries) (f : ℕ) (names : List (ℕ × List ℕ)) (old new : ℕ → Option (BTreeMap ℕ Text)) (kept : BTreeMap ℕ Text)
    → 0 < length names → HasLast (local_names before f ++ names) (at_number (λ n. n) kept)
    → ((n : ℕ) → new n ≡ cond (eqb f n) (Some kept) (old n)) → ((n : ℕ) → AreLocals (local_names before n) (old n))
    → (n : ℕ) → AreLocals (local_names (before ++ (f, names) ∷ []) n) (new n)
locals-kept before f names old new kept some has writes had n =
    elim (cases_eq f n) [
      | inl e ↦
          let here : new n ≡ Some kept = writes n ∙ ap (λ b. cond b (Some kept) (old n)) (eq-eqb f n e) in
          let all : local_names (before ++ (f, names) ∷ []) n ≡ local_names before f ++ names =
          locals-push before f names n ∙ ap (λ b. local_names before n ++ cond b names []) (eq-eqb f n e)
          ∙ ap (λ k. local_names before k ++ names) (sym e) in
          subst (λ o. AreLocals (local_names (before ++ (f, names) ∷ []) n) o) (sym here)
          (subst (λ (l : List (ℕ × List ℕ)). AreLocals l (Some kept)) (sym all)
          (omega (arith, length-append (local_names before f) names, some), has))
      | inr ne ↦
          let there : new n ≡ old n = writes n ∙ ap (λ b. cond b (Some kept) (old n)) (ne_eqb f n ne) in
          subst (λ o. AreLocals (local_names (before ++ (f, names) ∷ []) n) o) (sym there)
          (subst (λ (l : List (ℕ × List ℕ)). AreLocals l (old n)) (sym (locals-others before f names n ne)) (had n))
    ]

-- the names that a function had already, in its entry or in an empty map
pub had-locals : (names : List (ℕ × List ℕ)) (had : Option (BTreeMap ℕ Text)) (kept : BTreeMap ℕ Text) → had ≡ Some kept
    → AreLocals names had → HasLast names (at_number (λ n. n) kept)
had-locals names had kept is are = (subst (AreLocals names) is are).1

pub no-locals-yet : (names : List (ℕ × List ℕ)) (had : Option (BTreeMap ℕ Text)) → had ≡ None → AreLocals names had → names ≡ []
no-locals-yet names had is are = subst (AreLocals names) is are

-- writing over an entry that was removed gives what writing over it in place gives
pub written-twice : {X : Type 0} (f : ℕ) (v : X) (old between new : ℕ → Option X) → ((n : ℕ) → between n ≡ cond (eqb f n) None (old n))
    → ((n : ℕ) → new n ≡ cond (eqb f n) (Some v) (between n)) → (n : ℕ) → new n ≡ cond (eqb f n) (Some v) (old n)
written-twice {X} f v old between new removed added n = added n ∙ ap (cond (eqb f n) (Some v)) (removed n) ∙ by (eqb f n) where
  by : (b : Bool) → cond b (Some v) (cond b None (old n)) ≡ cond {A = Option X} b (Some v) (old n)
  by true = refl
  by false = refl
