-- What a plan holds of an expression has the values of the expression, and reads the same globals:
-- neither depends on the heap type of a null.
use Rattle.std.proofs.Common.{◌≡◌, ℕ, List, [], ◌∷◌, All, Option, refl, ap}
use Rattle.std.specs.Option.{option_and_then}
use Rattle.std.proofs.lemmas.List.Elements.{All-map, All-weaker}
use Rattle.wasm_spec.specs.declared.operators.Operator.{Operator}
use Rattle.wasm_spec.specs.declared.operators.Operator.TheVariants as op
use Rattle.wasm_spec.specs.Module.{Expression}
use Rattle.replay_spec.specs.Values.{Value, action, acted, run, only_value, eval, plain_step, const_value}
use Rattle.replay_spec.specs.Globals.{ReadsBelow}
use Rattle.replay_spec.specs.Held.{any_null, any_nulls}

run-any : (step : Operator → List Value → Option (List Value)) → ((o : Operator) → step (any_null o) ≡ step o)
    → (e : Expression) (stack : List Value) → run step (any_nulls e) stack ≡ run step e stack
run-any step same [] stack = refl
run-any step same (o ∷ os) stack = λ i. option_and_then (λ s. run-any step same os s i) (same o i stack)

pub const-any : (e : Expression) → const_value (any_nulls e) ≡ const_value e
const-any e = ap (option_and_then only_value) (run-any plain_step same e []) where
  same : (o : Operator) → plain_step (any_null o) ≡ plain_step o
  same (op.RefNull heap) = refl
  same _ = refl

pub eval-any : (globals : List Value) (fields : ℕ → ℕ) (e : Expression) → eval globals fields (any_nulls e) ≡ eval globals fields e
eval-any globals fields e = ap (option_and_then only_value) (run-any (λ o. acted (action globals fields o)) (λ o. ap acted (same o)) e []) where
  same : (o : Operator) → action globals fields (any_null o) ≡ action globals fields o
  same (op.RefNull heap) = refl
  same _ = refl

pub reads-any : (n : ℕ) (e : Expression) → All (ReadsBelow n) e → All (ReadsBelow n) (any_nulls e)
reads-any n e all = All-map (ReadsBelow n) any_null e (All-weaker (ReadsBelow n) (λ o. ReadsBelow n (any_null o)) same e all) where
  same : (o : Operator) → ReadsBelow n o → ReadsBelow n (any_null o)
  same (op.RefNull heap) h = h
  same _ h = h
