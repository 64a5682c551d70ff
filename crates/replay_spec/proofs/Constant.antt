-- A constant value is the value of an expression.
use Rattle.std.proofs.Common.{arith, ◌≡◌, ℕ, List, [], ◌∷◌, refl, ◌∙◌, ap, Option, None, Some}
use Rattle.std.specs.Option.{option_and_then}
use Rattle.std.proofs.lemmas.Option.{none-some}
use Rattle.wasm_spec.specs.declared.operators.Operator.{Operator}
use Rattle.wasm_spec.specs.Module.{Expression}
use Rattle.replay_spec.specs.Values.{Value, action, acted, run, eval, plain_step, const_value}

module _ (globals : List Value) (fields : ℕ → ℕ) where
  same-step : (op : Operator) (stack next : List Value) → plain_step op stack ≡ Some next → acted (action globals fields op) stack ≡ Some next
  same-step op stack next h1 = grind (arith, none-some)

  same-run : (e : Expression) (stack last : List Value) → run plain_step e stack ≡ Some last
      → run (λ op. acted (action globals fields op)) e stack ≡ Some last
  same-run [] stack last h = h
  same-run (op ∷ ops) stack last h = over (same-run ops) (plain_step op stack) (same-step op stack) h where
    over : ((stack last : List Value) → run plain_step ops stack ≡ Some last → run (λ op. acted (action globals fields op)) ops stack ≡ Some last)
        → (o : Option (List Value)) → ((next : List Value) → o ≡ Some next → acted (action globals fields op) stack ≡ Some next)
        → option_and_then (run plain_step ops) o ≡ Some last
        → option_and_then (run (λ op. acted (action globals fields op)) ops) (acted (action globals fields op) stack) ≡ Some last
    over more None is e = absurd (none-some last e)
    over more (Some next) is e = ap (option_and_then (run (λ op. acted (action globals fields op)) ops)) (is next refl) ∙ more next last e

  pub eval-const_value : (e : Expression) (v : Value) → const_value e ≡ Some v → eval globals fields e ≡ Some v
  eval-const_value e v h = grind (arith, same-run, none-some)
