-- Searches for the first global that is not typed.
use Rattle.std.proofs.Common.{◌≡◌, ◌↔◌, ℕ, zero, suc, ◌+◌, ◌<◌, Bool, false, IsTrue, List, [], ◌∷◌, ◌++◌, length, take, Some, refl, sym, ap, subst, ◌∙◌, arith, append_assoc}
use Rattle.std.specs.Prelude.{IfSome, slice_get}
use Rattle.std.proofs.Math.Seq.{take-append_seam}
use Rattle.std.proofs.lemmas.List.{append-nil, length-append}
use Rattle.wasm_spec.specs.Module.{GlobalDef}
use Rattle.rule_spec.specs.Lists.{Lists}
use Rattle.rule_spec.specs.Expressions.{AreGlobalsTyped}
use Rattle.form_reader.specs.Input.{Takes}
use Rattle.form_rules.specs.Globals.{IsGlobalTyped}
use Rattle.rule_breaks.specs.Breaks.{IsFirstUntyped}
use Rattle.rule_breaks.proofs.Searching.{seam}

-- where all are typed, none is untyped
typed-at : (l : Lists) (k : ℕ) (gs : List GlobalDef) (n : ℕ) → AreGlobalsTyped l k gs → n < length gs
    → IfSome (slice_get gs n) (λ (g : GlobalDef). ¬ IsGlobalTyped l (k + n) g) → ⊥
typed-at l k [] n typed lt lacks = absurd (omega arith)
typed-at l k (g ∷ gs) zero typed lt lacks =
    let e : k + 0 ≡ k = omega arith in
    subst (λ m. ¬ IsGlobalTyped l m g) e lacks typed.0
typed-at l k (g ∷ gs) (suc n) typed lt lacks =
    let e : k + suc n ≡ k + 1 + n = omega arith in
    typed-at l (k + 1) gs n typed.1 (omega arith) (subst (λ m. IfSome (slice_get gs n) (λ (h : GlobalDef). ¬ IsGlobalTyped l m h)) e lacks)

pub none-untyped : (l : Lists) (entry : ℕ) → IsFirstUntyped l entry → AreGlobalsTyped l l.imported_globals l.globals → ⊥
none-untyped l entry first typed = typed-at l l.imported_globals l.globals entry typed first.listed first.lacks

-- one more is typed
typed-push : (l : Lists) (k : ℕ) (gs : List GlobalDef) (g : GlobalDef) → AreGlobalsTyped l k gs → IsGlobalTyped l (k + length gs) g
    → AreGlobalsTyped l k (gs ++ g ∷ [])
typed-push l k [] g typed here = let e : k + 0 ≡ k = omega arith in (subst (λ m. IsGlobalTyped l m g) e here, tt)
typed-push l k (h ∷ gs) g typed here =
    let e : k + length (h ∷ gs) ≡ k + 1 + length gs = omega arith in
    (typed.0, typed-push l (k + 1) gs g typed.1 (subst (λ m. IsGlobalTyped l m g) e here))

-- so many globals come before those that remain, and all of them are typed
pub record GlobalsPass (l : Lists) (count : ℕ) (left : List GlobalDef) : Type 0 where
  pub done : List GlobalDef
  pub counted : length done ≡ count
  pub typed : AreGlobalsTyped l l.imported_globals done
  pub whole : done ++ left ≡ l.globals

pub globals_pass_none : (l : Lists) (left : List GlobalDef) → left ≡ l.globals → GlobalsPass l 0 left
globals_pass_none l left at = record { done = []; counted = refl; typed = tt; whole = at }

module _ (l : Lists) (count : ℕ) (left rest : List GlobalDef) (g : GlobalDef) (passes : GlobalsPass l count left) (at : left ≡ g ∷ rest) where
  through : passes.done ++ g ∷ rest ≡ l.globals
  through = ap (λ (gs : List GlobalDef). passes.done ++ gs) (sym at) ∙ passes.whole

  pub globals_pass_more : (next index : ℕ) → next ≡ count + 1 → index ≡ l.imported_globals + count → IsGlobalTyped l index g → GlobalsPass l next rest
  globals_pass_more next index is place here =
      let e : index ≡ l.imported_globals + length passes.done = omega (arith, place, passes.counted) in
      record {
        done = passes.done ++ g ∷ [];
        counted = omega (arith, length-append passes.done (g ∷ []), passes.counted, is);
        typed = typed-push l l.imported_globals passes.done g passes.typed (subst (λ m. IsGlobalTyped l m g) e here);
        whole = append_assoc passes.done (g ∷ []) rest ∙ through;
      }

  pub globals_pass_fails : (index : ℕ) → index ≡ l.imported_globals + count → (b : Bool) → b ≡ false → IsTrue b ↔ IsGlobalTyped l index g → IsFirstUntyped l count
  globals_pass_fails index place b is tells =
      let before : take count l.globals ≡ passes.done =
      sym (ap (λ gs. take count gs) through) ∙ sym (ap (λ n. take n (passes.done ++ g ∷ rest)) passes.counted) ∙ take-append_seam passes.done (g ∷ rest) in
      let there : slice_get l.globals count ≡ Some g =
      sym (ap (λ gs. slice_get gs count) through) ∙ sym (ap (slice_get (passes.done ++ g ∷ rest)) passes.counted) ∙ seam passes.done rest g in
      record {
        before = subst (AreGlobalsTyped l l.imported_globals) (sym before) passes.typed;
        listed = omega (arith, ap length through, length-append passes.done (g ∷ rest), passes.counted);
        lacks = subst (λ o. IfSome o (λ (h : GlobalDef). ¬ IsGlobalTyped l (l.imported_globals + count) h)) (sym there)
            (λ here. let answered = tells.1 (subst (λ m. IsGlobalTyped l m g) (sym place) here) in absurd cc);
      }

pub globals_pass_ended : (l : Lists) (count : ℕ) (left rest : List GlobalDef) (g : GlobalDef) (more : Bool) → GlobalsPass l count left → more ≡ false
    → Takes left g rest more → AreGlobalsTyped l l.imported_globals l.globals
globals_pass_ended l count left rest g more passes ended takes =
    let none : left ≡ [] = (subst (Takes left g rest) ended takes).0 in
    let all : passes.done ≡ l.globals = sym (append-nil passes.done) ∙ ap (λ (gs : List GlobalDef). passes.done ++ gs) (sym none) ∙ passes.whole in
    subst (AreGlobalsTyped l l.imported_globals) all passes.typed
