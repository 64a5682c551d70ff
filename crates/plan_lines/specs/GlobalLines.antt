-- The lines of the first values of globals.
use Rattle.std.specs.Prelude.{ℕ, List, ◌++◌, codes, decimal}
use Rattle.wasm_index.specs.declared.index.Index.{Index}
use Rattle.wasm_index.specs.declared.spaces.DefinedGlobalSpace.{DefinedGlobalSpace}
use Rattle.wasm_index.specs.Index.{number_of}
use Rattle.wasm_convert.specs.declared.operators.ConstOp.{ConstOp}
use Rattle.wasm_convert.specs.declared.operators.ConstOp.TheVariants as ops
use Rattle.wasm_convert.specs.declared.values.GlobalConstValue.{GlobalConstValue}
use Rattle.wasm_convert.specs.declared.values.GlobalConstValue.TheVariants as value
use Rattle.plan_lines.specs.Expressions.{operator_text, expression_text}
use Rattle.plan_lines.specs.Numbers.{named_number}

-- the operator that gives a value
abbrev pub constant_of : GlobalConstValue → ConstOp
constant_of (value.I32 n) = ops.I32Const n
constant_of (value.I64 n) = ops.I64Const n
constant_of (value.F32 bits) = ops.F32Const bits
constant_of (value.F64 bits) = ops.F64Const bits
constant_of (value.V128 bits) = ops.V128Const bits

-- a defined global whose value is known
unfoldable pub global_line : Index DefinedGlobalSpace → GlobalConstValue → List ℕ
global_line index value = codes "global " ++ decimal (number_of index) ++ codes " " ++ operator_text (constant_of value) ++ codes "\n"

-- a defined global that begins as the value of an expression
unfoldable pub global_expression_line : Index DefinedGlobalSpace → List ConstOp → List ℕ
global_expression_line index e = named_number (codes "global-expr") (number_of index) ++ codes " " ++ expression_text e ++ codes "\n"
