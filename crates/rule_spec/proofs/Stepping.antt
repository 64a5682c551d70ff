-- Operators one after another lead from one stack to another: the relation that typing computes.
use Rattle.std.proofs.Common.{◌≡◌, ◌∙◌, ℕ, ◌+◌, ◌-◌, Bool, true, false, List, [], ◌∷◌, ◌++◌, length, take, drop, Option, None, Some, if◌then◌else◌, refl, sym, ap, subst, arith}
use Rattle.std.specs.Option.{option_and_then}
use Rattle.std.proofs.Math.Seq.{take-append_seam, drop-append_seam}
use Rattle.std.proofs.lemmas.List.{length-append, take-append-drop}
use Rattle.std.proofs.lemmas.Option.{none-some, same_Some}
use Rattle.wasm_spec.specs.declared.entities.GlobalType.{GlobalType}
use Rattle.wasm_spec.specs.declared.operators.Operator.{Operator}
use Rattle.wasm_spec.specs.Module.{Expression}
use Rattle.rule_spec.specs.declared.classes.Class.{Class}
use Rattle.rule_spec.specs.Classes.{decide_classes}
use Rattle.rule_spec.specs.Machine.{run, only_value}
use Rattle.rule_spec.specs.Lists.{Lists}
use Rattle.rule_spec.specs.Typing.{Signature, signature, typed_step, HasClass}

-- the values that an operator takes are the last ones of a stack, and it pushes one in their place
pub record Step (l : Lists) (visible : List GlobalType) (op : Operator) (before after : List Class) : Type 0 where
  pub signed : Signature
  pub rest : List Class
  pub is_signed : signature l visible op ≡ Some signed
  pub has_taken : before ≡ rest ++ signed.takes
  pub has_pushed : after ≡ rest ++ signed.pushes ∷ []

-- operators lead from one stack to another, one after another
abbrev pub Leads : Lists → List GlobalType → Expression → List Class → List Class → Type 0
Leads l visible [] before after = before ≡ after
Leads l visible (op ∷ ops) before after = (between : List Class) × Step l visible op before between × Leads l visible ops between after

-- ---- one step

step_of : (s : Signature) (rest : List Class) → typed_step s (rest ++ s.takes) ≡ Some (rest ++ s.pushes ∷ [])
step_of s rest =
    let n : length (rest ++ s.takes) - length s.takes ≡ length rest = let both = length-append rest s.takes in omega (arith, both) in
    let same : (decide_classes s.takes s.takes).0 ≡ true = (decide_classes s.takes s.takes).1.1 refl in
    rw (n, drop-append_seam rest s.takes, take-append_seam rest s.takes, same) refl

-- what is left of a stack, and what was on it
record Parts (s : Signature) (before after : List Class) : Type 0 where
  rest : List Class
  has_taken : before ≡ rest ++ s.takes
  has_pushed : after ≡ rest ++ s.pushes ∷ []

parts_of : (s : Signature) (before after : List Class) → typed_step s before ≡ Some after → Parts s before after
parts_of s before after e = by (decide_classes (drop n before) s.takes).0 refl e where
  n : ℕ
  n = length before - length s.takes

  by : (b : Bool) → (decide_classes (drop n before) s.takes).0 ≡ b → (if b then Some (take n before ++ s.pushes ∷ []) else None) ≡ Some after → Parts s before after
  by true same is = record {
    rest = take n before;
    has_taken = sym (take-append-drop n before) ∙ ap (λ (xs : List Class). take n before ++ xs) ((decide_classes (drop n before) s.takes).1.0 same);
    has_pushed = sym (same_Some _ _ is);
  }
  by false same is = absurd (none-some after is)

module _ (l : Lists) (visible : List GlobalType) where
  abbrev pub step : Operator → List Class → Option (List Class)
  step op stack = option_and_then (λ s. typed_step s stack) (signature l visible op)

  stepped : (op : Operator) (before after : List Class) → Step l visible op before after → step op before ≡ Some after
  stepped op before after s = rw (s.is_signed, s.has_taken, s.has_pushed) (step_of s.signed s.rest)

  step_taken : (op : Operator) (before after : List Class) → step op before ≡ Some after → Step l visible op before after
  step_taken op before after e = by (signature l visible op) refl e where
    by : (o : Option Signature) → signature l visible op ≡ o → option_and_then (λ s. typed_step s before) o ≡ Some after → Step l visible op before after
    by (Some s) is e = let parts = parts_of s before after e in
        record { signed = s; rest = parts.rest; is_signed = is; has_taken = parts.has_taken; has_pushed = parts.has_pushed }
    by None is e = absurd (none-some after e)

  -- ---- all steps

  ran : (e : Expression) (before after : List Class) → Leads l visible e before after → run step e before ≡ Some after
  ran [] before after h = ap Some h
  ran (op ∷ ops) before after h = rw (stepped op before h.0 h.1) (ran ops h.0 after h.2)

  led : (e : Expression) (before after : List Class) → run step e before ≡ Some after → Leads l visible e before after
  led [] before after h = same_Some before after h
  led (op ∷ ops) before after h = by (step op before) refl (λ between. led ops between after) h where
    by : (o : Option (List Class)) → step op before ≡ o → ((between : List Class) → run step ops between ≡ Some after → Leads l visible ops between after)
        → option_and_then (run step ops) o ≡ Some after → Leads l visible (op ∷ ops) before after
    by (Some between) is others e = (between, step_taken op before between is, others between e)
    by None is others e = absurd (none-some after e)

  only : (o : Option (List Class)) (c : Class) → option_and_then only_value o ≡ Some c → o ≡ Some (c ∷ [])
  only (Some (v ∷ [])) c e = ap (λ (x : Class). Some (x ∷ [])) (same_Some v c e)
  only (Some []) c e = absurd (none-some c e)
  only (Some (v ∷ w ∷ vs)) c e = absurd (none-some c e)
  only None c e = absurd (none-some c e)

  -- an expression of a class leads to one value of that class, and the other way
  pub leads_to : (e : Expression) (c : Class) → HasClass l visible e c → Leads l visible e [] (c ∷ [])
  unfolding HasClass
  leads_to e c h = led e [] (c ∷ []) (only (run step e []) c h)

  pub has_class : (e : Expression) (c : Class) → Leads l visible e [] (c ∷ []) → HasClass l visible e c
  unfolding HasClass
  has_class e c h = rw (ran e [] (c ∷ []) h) refl
