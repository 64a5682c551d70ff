-- The globals that a plan names are defined ones.
use Rattle.std.proofs.Common.{◌≡◌, ℕ, ◌+◌, ◌<◌, List, [], ◌∷◌, length, Option, None, Some, inl, inr, refl, sym, ap, subst, arith}
use Rattle.std.specs.Prelude.{All, is_none}
use Rattle.std.specs.List.{cons_option, filter_map, enumerate_from}
use Rattle.std.specs.Option.{option_map}
use Rattle.std.proofs.lemmas.Bool.{cases_Bool}
use Rattle.std.proofs.lemmas.List.Elements.{All-nil, All-cons}
use Rattle.std.proofs.lemmas.Option.{none-some, same_Some}
use Rattle.wasm_spec.specs.Module.{Expression}
use Rattle.replay_spec.specs.Values.{Value, const_value}
use Rattle.replay_spec.specs.Globals.{simple_of, kept_of, GlobalPlan, IsGlobalPlan}

abbrev IsBelow : {A : Type 0} → ℕ → ℕ × A → Type 0
IsBelow n g = g.0 < n

-- what is made of numbered initialisers keeps their numbers
numbers-low : {A : Type 0} (f : ℕ × Expression → Option (ℕ × A)) → ((g : ℕ × Expression) (x : ℕ × A) → f g ≡ Some x → x.0 ≡ g.0)
    → (n end : ℕ) (es : List Expression) → n + length es ≡ end → All (IsBelow end) (filter_map f (enumerate_from n es))
numbers-low f keeps n end [] is = All-nil (IsBelow end)
numbers-low {A} f keeps n end (e ∷ es) is = with_first (f (n, e)) refl (numbers-low f keeps (n + 1) end es (omega arith)) where
  with_first : (o : Option (ℕ × A)) → f (n, e) ≡ o → All (IsBelow end) (filter_map f (enumerate_from (n + 1) es))
      → All (IsBelow end) (cons_option o (filter_map f (enumerate_from (n + 1) es)))
  with_first None at more = more
  with_first (Some x) at more = All-cons (IsBelow end) x (filter_map f (enumerate_from (n + 1) es)) (let same = keeps (n, e) x at in omega arith) more

simple-keeps : (g : ℕ × Expression) (x : ℕ × Value) → simple_of g ≡ Some x → x.0 ≡ g.0
simple-keeps g x at = over (const_value g.1) at where
  over : (o : Option Value) → option_map (λ v. (g.0, v)) o ≡ Some x → x.0 ≡ g.0
  over None e = absurd (none-some x e)
  over (Some v) e = sym (ap (λ (p : ℕ × Value). p.0) (same_Some (g.0, v) x e))

kept-keeps : (g x : ℕ × Expression) → kept_of g ≡ Some x → x.0 ≡ g.0
kept-keeps g x is = elim (cases_Bool (is_none (const_value g.1))) [ inl e ↦ let h = rw e at is in cc | inr e ↦ let h = rw e at is in absurd (cc) ]

pub simple-low : (initialisers : List Expression) (plan : GlobalPlan) → IsGlobalPlan initialisers plan → All (λ g. g.0 < plan.count) plan.simple
simple-low initialisers plan is =
    subst (All (IsBelow plan.count)) (sym is.simple) (numbers-low simple_of simple-keeps 0 plan.count initialisers (let c = is.count in omega arith))

pub kept-low : (initialisers : List Expression) (plan : GlobalPlan) → IsGlobalPlan initialisers plan → All (λ g. g.0 < plan.count) plan.kept
kept-low initialisers plan is =
    subst (All (IsBelow plan.count)) (sym is.kept) (numbers-low kept_of kept-keeps 0 plan.count initialisers (let c = is.count in omega arith))
