-- Constant expressions of a translated module (core specification, 5.4, instructions): how they are
-- converted from those that were read, and their values.
use Rattle.std.specs.Prelude.{◌≡◌, List, [], ◌∷◌, map, Option, Some, None, pos}
use Rattle.std.specs.Int.{cast_unsigned, w32, w64}
use Rattle.std.specs.List.{filter_map}
use Rattle.wasm_spec.specs.declared.operators.Operator.{Operator}
use Rattle.wasm_spec.specs.declared.operators.Operator.TheVariants as plain
use Rattle.wasm_spec.specs.Module.{Expression}
use Rattle.wasm_index.specs.declared.index.Index.{Index}
use Rattle.wasm_index.specs.declared.spaces.FuncSpace.{FuncSpace}
use Rattle.wasm_index.specs.Index.{index_of}
use Rattle.wasm_convert.specs.declared.operators.ConstOp.{ConstOp}
use Rattle.wasm_convert.specs.declared.operators.ConstOp.TheVariants as ops
use Rattle.wasm_convert.specs.declared.values.GlobalConstValue.{GlobalConstValue}
use Rattle.wasm_convert.specs.declared.values.GlobalConstValue.TheVariants as value
use Rattle.replay_spec.specs.Values.{Value, I32, I64, F32, F64, V128}
use Rattle.wasm_convert.specs.Conversion.{LookUp}
use Rattle.wasm_convert.specs.Operators.{operator_of, conversion}

-- the operators of an expression that was read
abbrev pub const_ops_of : LookUp → Expression → List ConstOp
const_ops_of look e = map (λ read. (conversion look read).op) e

-- the function to which an operator makes a reference
abbrev pub function_in : Operator → Option (Index FuncSpace)
function_in (plain.RefFunc function) = Some (index_of function)
function_in _ = None

-- the functions to which an expression makes references, in order
abbrev pub functions_of : Expression → List (Index FuncSpace)
functions_of e = filter_map function_in e

-- the expression, as it is read
abbrev pub expression_of : List ConstOp → Expression
expression_of e = map operator_of e

-- a value that is known before any code runs: integers are stored signed
abbrev pub plain_value_of : GlobalConstValue → Value
plain_value_of (value.I32 n) = I32 (cast_unsigned w32 n)
plain_value_of (value.I64 n) = I64 (cast_unsigned w64 n)
plain_value_of (value.F32 bits) = F32 bits
plain_value_of (value.F64 bits) = F64 bits
plain_value_of (value.V128 bits) = V128 bits

-- one `i32.const` of a number other than 0
abbrev pub IsNonzeroI32 : List ConstOp → Type 0
IsNonzeroI32 (ops.I32Const n ∷ []) = n ≡ pos 0 → ⊥
IsNonzeroI32 _ = ⊥
