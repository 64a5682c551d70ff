-- Hints of functions, entered one after another; the first entry of a function counts.
use Rattle.std.proofs.Common.{◌≡◌, ℕ, List, [], ◌∷◌, ◌++◌, map, true, false, cond, eqb, nat_eq, Option, Some, None, refl, sym, ap, subst, ◌∙◌, inl, inr}
use Rattle.std.specs.BTreeMap.{BTreeMap}
use Rattle.std.specs.Global.{Vec}
use Rattle.std.specs.Map.{lookup}
use Rattle.std.specs.Option.{option_map, is_some}
use Rattle.std.proofs.lemmas.Bool.{cases_eq, eq-eqb, ne_eqb}
use Rattle.custom_sections.specs.declared.hints.Hint.{Hint}
use Rattle.module_customs.specs.Kept.{kept_hint, no_function}
use Rattle.module_customs.proofs.Keeping.{hint_here, hint_elsewhere, hint_again, hint_nowhere, no_hint_yet}
use Rattle.init_plan.specs.declared.debug_info.BranchHint.{BranchHint}
use Rattle.module_customs.specs.Names.{at_number}
use Rattle.module_customs.specs.Hints.{HintLists, HasFirst, branch_hint_of}

none-there : {A B C : Type 0} (f : A → C) (g : B → C) (o : Option A) (p : Option B) → option_map f o ≡ option_map g p → is_some o ≡ false → p ≡ None
none-there f g (Some x) p e absent = absurd cc
none-there f g None None e absent = refl
none-there f g None (Some y) e absent = absurd cc

some-there : {A B C : Type 0} (f : A → C) (g : B → C) (o : Option A) (p : Option B) → option_map f o ≡ option_map g p → is_some o ≡ true
    → (w : B) × (p ≡ Some w)
some-there f g None p e present = absurd cc
some-there f g (Some x) None e present = absurd cc
some-there f g (Some x) (Some y) e present = (y, refl)

abbrev items : Vec BranchHint → List BranchHint
items hints = hints.items

module _ (before : HintLists) (k : ℕ) (hints : List Hint) (old : ℕ → Option (Vec BranchHint)) (had : HasFirst before old) where
  pub first-kept : (new : ℕ → Option (Vec BranchHint)) (v : Vec BranchHint) → v.items ≡ map branch_hint_of hints → (k ≡ no_function → ⊥)
      → is_some (old k) ≡ false → ((n : ℕ) → new n ≡ cond (eqb k n) (Some v) (old n)) → HasFirst (before ++ (k, hints) ∷ []) new
  first-kept new v is real absent writes n = elim (cases_eq k n) [
    | inl e ↦
        let P : ℕ → Type 0 = λ q. kept_hint before q ≡ None in
        let none : kept_hint before n ≡ None = subst P e (none-there items (map branch_hint_of) (old k) (kept_hint before k) (had k) absent) in
        rw (writes n, eq-eqb k n e, hint_here before k hints n real none e) (ap Some is)
    | inr ne ↦ rw (writes n, ne_eqb k n ne, hint_elsewhere before k hints n ne) (had n)
  ]

  pub first-again : is_some (old k) ≡ true → HasFirst (before ++ (k, hints) ∷ []) old
  first-again present n =
      let w = some-there items (map branch_hint_of) (old k) (kept_hint before k) (had k) present in
      had n ∙ ap (option_map (map branch_hint_of)) (sym (hint_again before k hints n w.0 w.1))

  pub first-nowhere : k ≡ no_function → HasFirst (before ++ (k, hints) ∷ []) old
  first-nowhere e n = had n ∙ ap (option_map (map branch_hint_of)) (sym (hint_nowhere before k hints n e))

pub none-first : {K : Type 0} (number : K → ℕ) (kept : BTreeMap K (Vec BranchHint)) → kept.entries ≡ [] → HasFirst [] (at_number number kept)
none-first {K} number kept empty n =
    ap (λ (es : List (K × Vec BranchHint)). option_map items (lookup (λ key. nat_eq n (number key)) es)) empty
    ∙ ap (option_map (map branch_hint_of)) (no_hint_yet {H = List Hint} n)
