-- The text of an operator is its name, and what follows it.
use Rattle.std.proofs.Common.{◌≡◌, ◌++◌, refl}
use Rattle.wasm_convert.specs.declared.operators.ConstOp.{ConstOp}
use Rattle.wasm_convert.specs.declared.operators.ConstOp.TheVariants as ops
use Rattle.wasm_convert.specs.Operators.{name_of_operator, operands_of}
use Rattle.plan_lines.specs.Expressions.{operands_text, operator_text}

pub operator_told : (op : ConstOp) → name_of_operator op ++ operands_text (operands_of op) ≡ operator_text op
operator_told (ops.I32Const value) = refl
operator_told op = refl
