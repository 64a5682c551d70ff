-- A converted expression, converted back, is the replay's view of the expression.
use Rattle.std.proofs.Common.{◌≡◌, map, ap, ◌∙◌}
use Rattle.std.proofs.lemmas.Simd.{map-map}
use Rattle.wasm_spec.specs.Module.{Expression}
use Rattle.wasm_convert.specs.Conversion.{LookUp}
use Rattle.wasm_convert.specs.Operators.{operator_of, conversion}
use Rattle.wasm_convert.specs.Constants.{const_ops_of, expression_of}
use Rattle.replay_spec.specs.Values.{const_value}
use Rattle.replay_spec.specs.Held.{any_nulls}
use Rattle.replay_spec.proofs.AnyNull.{const-any}

pub seen-is : (look : LookUp) (e : Expression) → expression_of (const_ops_of look e) ≡ any_nulls e
seen-is look e = map-map operator_of (λ read. (conversion look read).op) e ∙ (λ i. map (λ read. (conversion look read).same i) e)

-- a converted expression has the constant value of the expression
pub const_value_converted : (look : LookUp) (e : Expression) → const_value (expression_of (const_ops_of look e)) ≡ const_value e
const_value_converted look e = ap const_value (seen-is look e) ∙ const-any e
