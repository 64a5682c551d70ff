-- The texts of constant expressions.
use Rattle.std.specs.Prelude.{ℕ, zero, suc, ◌/◌, ◌%◌, false, List, [], ◌∷◌, ◌++◌, codes, decimal}
use Rattle.std.specs.Fmt.{digit_glyph, signed_decimal}
use Rattle.std.specs.List.{join_by}
use Rattle.wasm_index.specs.Index.{number_of}
use Rattle.wasm_types.specs.Texts.{heap_text}
use Rattle.wasm_convert.specs.declared.operators.ConstOp.{ConstOp}
use Rattle.wasm_convert.specs.declared.operands.Operands.{Operands}
use Rattle.wasm_convert.specs.declared.operands.Operands.TheVariants as operand
use Rattle.wasm_convert.specs.declared.operators.ConstOp.TheVariants as ops

-- the last digits of a number in base 16, in lower case, as many as requested
unfoldable pub hexadecimal : ℕ → ℕ → List ℕ
hexadecimal zero n = []
hexadecimal (suc others) n = hexadecimal others (n / 16) ++ digit_glyph false (n % 16) ∷ []

-- what follows a name: integers are signed, floats and vectors are their bits, an index is its
-- number
abbrev pub operands_text : Operands → List ℕ
operands_text operand.None = []
operands_text (operand.I32 value) = codes " " ++ signed_decimal value
operands_text (operand.I64 value) = codes " " ++ signed_decimal value
operands_text (operand.Bits32 bits) = codes " 0x" ++ hexadecimal 8 bits
operands_text (operand.Bits64 bits) = codes " 0x" ++ hexadecimal 16 bits
operands_text (operand.Bits128 bits) = codes " 0x" ++ hexadecimal 32 bits
operands_text (operand.Index index) = codes " " ++ decimal index
operands_text (operand.Heap heap) = codes " " ++ heap_text heap
operands_text (operand.IndexAndSize index size) = codes " " ++ decimal index ++ codes " " ++ decimal size

-- an operator with its operands, in the text format (core specification, 6.5, instructions)
abbrev pub operator_text : ConstOp → List ℕ
operator_text (ops.I32Const value) = codes "i32.const " ++ signed_decimal value
operator_text (ops.I64Const value) = codes "i64.const " ++ signed_decimal value
operator_text (ops.F32Const bits) = codes "f32.const 0x" ++ hexadecimal 8 bits
operator_text (ops.F64Const bits) = codes "f64.const 0x" ++ hexadecimal 16 bits
operator_text (ops.V128Const bits) = codes "v128.const 0x" ++ hexadecimal 32 bits
operator_text (ops.GlobalGet global) = codes "global.get " ++ decimal (number_of global)
operator_text ops.RefI31 = codes "ref.i31"
operator_text (ops.RefNull heap) = codes "ref.null " ++ heap_text heap
operator_text (ops.RefFunc function) = codes "ref.func " ++ decimal (number_of function)
operator_text ops.I32Add = codes "i32.add"
operator_text ops.I32Sub = codes "i32.sub"
operator_text ops.I32Mul = codes "i32.mul"
operator_text ops.I64Add = codes "i64.add"
operator_text ops.I64Sub = codes "i64.sub"
operator_text ops.I64Mul = codes "i64.mul"
operator_text (ops.StructNew type) = codes "struct.new " ++ decimal (number_of type)
operator_text (ops.StructNewDefault type) = codes "struct.new_default " ++ decimal (number_of type)
operator_text (ops.ArrayNew type) = codes "array.new " ++ decimal (number_of type)
operator_text (ops.ArrayNewDefault type) = codes "array.new_default " ++ decimal (number_of type)
operator_text (ops.ArrayNewFixed type size) = codes "array.new_fixed " ++ decimal (number_of type) ++ codes " " ++ decimal size
operator_text ops.ExternConvertAny = codes "extern.convert_any"
operator_text ops.AnyConvertExtern = codes "any.convert_extern"

-- operators, joined by a semicolon and a space
unfoldable pub expression_text : List ConstOp → List ℕ
expression_text e = join_by operator_text (codes "; ") e
