-- Searches for an earlier export of the same name.
use Rattle.std.proofs.Common.{◌≡◌, ◌≢◌, ℕ, Bool, true, false, List, [], ◌∷◌, ◌++◌, length, map, take, Some, All, Contains, refl, sym, ap, subst, ◌∙◌}
use Rattle.std.specs.Prelude.{slice_get}
use Rattle.std.specs.Str.{bytes_eq}
use Rattle.std.proofs.lemmas.Slice.Eq.{bytes_eq-Decides}
use Rattle.std.proofs.Math.Seq.{take-append_seam}
use Rattle.std.proofs.lemmas.List.Elements.{All-map, All-contains, All-take}
use Rattle.wasm_spec.specs.Module.{Export}
use Rattle.rule_breaks.specs.Faults.{At}
use Rattle.rule_breaks.proofs.Searching.{Passes, passes_all, seam}
use Rattle.rule_breaks.proofs.Numbered.{at_from}

abbrev pub IsOther : List ℕ → Export → Type 0
IsOther name e = e.name ≢ name

-- what the test of names says
pub same_bytes : (a b : List ℕ) (r : Bool) → r ≡ bytes_eq a b → r ≡ true → a ≡ b
same_bytes a b r is equal = (bytes_eq-Decides a b).0 (sym is ∙ equal)

pub other_bytes : (a b : List ℕ) (r : Bool) → r ≡ bytes_eq a b → r ≡ false → a ≢ b
other_bytes a b r is unequal same = let e : true ≡ false = sym ((bytes_eq-Decides a b).1 same) ∙ sym is ∙ unequal in absurd cc

absent : (name : List ℕ) (es : List Export) → All (IsOther name) es → Contains (map (λ (e : Export). e.name) es) name → ⊥
absent name es all has =
    All-contains (λ n. n ≢ name) (map (λ (e : Export). e.name) es) name (All-map (λ n. n ≢ name) (λ (e : Export). e.name) es all) has refl

module _ (name : List ℕ) (number : ℕ) (left all : List Export) (passes : Passes (IsOther name) number left all) where
  -- all of the first entries have other names
  pub none_before : (entry : ℕ) → number ≡ entry → Contains (map (λ (e : Export). e.name) (take entry all)) name → ⊥
  none_before entry is has =
      let before : take entry all ≡ passes.done =
      sym (ap (λ n. take n all) (passes.counted ∙ is)) ∙ sym (ap (take (length passes.done)) passes.whole) ∙ take-append_seam passes.done left in
      absent name passes.done passes.kept (subst (λ es. Contains (map (λ (e : Export). e.name) es) name) before has)

  -- and so have all
  pub none_at_all : (entry : ℕ) → left ≡ [] → Contains (map (λ (e : Export). e.name) (take entry all)) name → ⊥
  none_at_all entry ended has = absent name (take entry all) (All-take (IsOther name) entry all (passes_all (IsOther name) number left all passes ended)) has

  -- this one has the name
  pub same_name : (rest : List Export) (e : Export) → left ≡ e ∷ rest → e.name ≡ name → At all number (λ (x : Export). x.name ≡ name)
  same_name rest e at same =
      let there : slice_get all number ≡ Some e =
      sym (ap (λ es. slice_get es number) (ap (λ (es : List Export). passes.done ++ es) (sym at) ∙ passes.whole))
      ∙ sym (ap (slice_get (passes.done ++ e ∷ rest)) passes.counted) ∙ seam passes.done rest e in
      at_from (λ (x : Export). x.name ≡ name) all number e (sym there) same
