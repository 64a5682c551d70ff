-- Expressions of one `i32.const`.
use Rattle.std.proofs.Common.{◌≡◌, ◌↔◌, ℤ, ℕ, List, [], ◌∷◌, All, refl}
use Rattle.std.proofs.lemmas.List.Elements.{All-nil, All-cons}
use Rattle.wasm_spec.specs.declared.entities.GlobalType.{GlobalType}
use Rattle.wasm_spec.specs.declared.operators.Operator.{Operator}
use Rattle.wasm_spec.specs.declared.operators.Operator.TheVariants.{I32Const}
use Rattle.rule_spec.specs.declared.classes.Class.TheVariants.{I32}
use Rattle.rule_spec.specs.Lists.{Lists}
use Rattle.rule_spec.specs.References.{OperatorRefersIn}
use Rattle.rule_spec.specs.Typing.{HasClass}
use Rattle.rule_spec.proofs.Stepping.{has_class}
use Rattle.form_rules.proofs.Leading.{one_leads}

-- such an expression has the class i32
pub constant_typed : (l : Lists) (visible : List GlobalType) (value : ℤ) (ops : List Operator) → ops ≡ I32Const value ∷ [] → HasClass l visible ops I32
constant_typed l visible value ops is = has_class l visible ops I32 ((one_leads l visible value ops I32 (Unit {0}) is (λ t. refl, λ e. tt)).0 tt)

-- and no reference
pub constant_refers : (types : ℕ) (value : ℤ) (ops : List Operator) → ops ≡ I32Const value ∷ [] → All (OperatorRefersIn types) ops
constant_refers types value ops is = rw is (All-cons (OperatorRefersIn types) (I32Const value) [] tt (All-nil (OperatorRefersIn types)))

-- what holds changes nothing
pub also : {A B : Type 0} → B → A ↔ (A × B)
also b = (λ a. (a, b), λ both. both.0)
