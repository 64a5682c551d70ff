-- Tests of all entries, while some of them remain in a walk.
use Rattle.std.proofs.Common.{◌≡◌, ◌↔◌, ℕ, ◌+◌, Bool, false, IsTrue, List, [], ◌∷◌, length, All, sym, ap, subst, arith}
use Rattle.std.proofs.lemmas.List.Elements.{All-nil, All-cons, All-head, All-tail}
use Rattle.wasm_spec.specs.Module.{GlobalDef}
use Rattle.rule_spec.specs.Lists.{Lists}
use Rattle.rule_spec.specs.Expressions.{AreGlobalsTyped}
use Rattle.form_reader.specs.Input.{Takes}
use Rattle.form_rules.specs.Globals.{IsGlobalTyped}

-- a law of the first entry and of the others: it holds of none, and of an entry and others where it
-- holds of both
pub record ByEntry {X : Type 0} (Now Next : List X → Type 0) (One : X → Type 0) : Type 0 where
  pub none : Now []
  pub split : (x : X) (rest : List X) → Now (x ∷ rest) ↔ (One x × Next rest)

pub by_All : {X : Type 0} (P : X → Type 0) → ByEntry (All P) (All P) P
by_All P = record {
  none = All-nil P;
  split = λ x rest. (λ all. (All-head P x rest all, All-tail P x rest all), λ both. All-cons P x rest both.0 both.1);
}

pub by_globals : (l : Lists) (index : ℕ) → ByEntry (AreGlobalsTyped l index) (AreGlobalsTyped l (index + 1)) (IsGlobalTyped l index)
by_globals l index = record { none = tt; split = λ (g : GlobalDef) rest. (λ all. all, λ both. both) }

-- W says that all hold. It holds exactly where those checked so far hold, as b says, and the
-- remaining ones hold
module _ {X : Type 0} {Now Next : List X → Type 0} {One : X → Type 0} (by : ByEntry Now Next One)
    (W : Type 0) (b : Bool) (left rest : List X) (x : X) (tells : (IsTrue b × Now left) ↔ W) where
  -- one more was checked
  pub asked_more : (c : Bool) → left ≡ x ∷ rest → IsTrue c ↔ (IsTrue b × One x) → (IsTrue c × Next rest) ↔ W
  asked_more c at one = (
    λ both. let asked = one.0 both.0 in tells.0 (asked.0, subst Now (sym at) ((by.split x rest).1 (asked.1, both.1))),
    λ all. let both = tells.1 all in let parts = (by.split x rest).0 (subst Now at both.1) in (one.1 (both.0, parts.0), parts.1),
  )

  -- all were checked
  pub asked_all : (more : Bool) → more ≡ false → Takes left x rest more → IsTrue b ↔ W
  asked_all more ended takes =
      let none : left ≡ [] = (subst (Takes left x rest) ended takes).0 in
      (λ answered. tells.0 (answered, subst Now (sym none) by.none), λ all. (tells.1 all).0)

-- all were counted
pub all_counted : {X : Type 0} (count all : ℕ) (left rest : List X) (x : X) (more : Bool) → more ≡ false → Takes left x rest more → count + length left ≡ all
    → count ≡ all
all_counted count all left rest x more ended takes so_far =
    let none : left ≡ [] = (subst (Takes left x rest) ended takes).0 in
    omega (arith, ap length none, so_far)
