-- Operators of constant expressions (core specification, 3.4, constant expressions) in a translated
-- module, and the operators that were read.
use Rattle.std.proofs.Common.{refl, ap}
use Rattle.std.specs.Prelude.{◌≡◌, ℕ, ◌<◌, List, [], length, nat_eq, Option, None, ⊤, codes, if◌then◌else◌}
use Rattle.wasm_spec.specs.declared.types.UnpackedIndex.{UnpackedIndex}
use Rattle.wasm_spec.specs.declared.types.HeapType.{HeapType}
use Rattle.wasm_spec.specs.declared.types.HeapType.TheVariants.{Abstract}
use Rattle.wasm_spec.specs.declared.types.AbstractHeapType.TheVariants.{Any}
use Rattle.wasm_spec.specs.declared.operators.Operator.{Operator}
use Rattle.wasm_spec.specs.declared.operators.Operator.TheVariants as plain
use Rattle.wasm_index.specs.Index.{index_of, number_of}
use Rattle.wasm_convert.specs.declared.operators.ConstOp.{ConstOp}
use Rattle.wasm_convert.specs.declared.operators.ConstOp.TheVariants as ops
use Rattle.wasm_convert.specs.declared.operands.Operands.{Operands}
use Rattle.wasm_convert.specs.declared.operands.Operands.TheVariants as operand
use Rattle.replay_spec.specs.Held.{any_null}
use Rattle.replay_spec.specs.Values.{Value, action, is_plain}
use Rattle.wasm_convert.specs.Conversion.{LookUp, heap_type_of}
use Rattle.wasm_convert.specs.Known.{KnowsHeap}

-- an operator that was read, with its indices typed by their lists and its heap type converted
module _ (look : LookUp) where
  abbrev pub const_op_of : Operator → ConstOp
  const_op_of (plain.I32Const value) = ops.I32Const value
  const_op_of (plain.I64Const value) = ops.I64Const value
  const_op_of (plain.F32Const bits) = ops.F32Const bits
  const_op_of (plain.F64Const bits) = ops.F64Const bits
  const_op_of (plain.V128Const value) = ops.V128Const value
  const_op_of (plain.GlobalGet global) = ops.GlobalGet (index_of global)
  const_op_of plain.RefI31 = ops.RefI31
  const_op_of (plain.RefNull heap) = ops.RefNull (heap_type_of look heap)
  const_op_of (plain.RefFunc function) = ops.RefFunc (index_of function)
  const_op_of plain.I32Add = ops.I32Add
  const_op_of plain.I32Sub = ops.I32Sub
  const_op_of plain.I32Mul = ops.I32Mul
  const_op_of plain.I64Add = ops.I64Add
  const_op_of plain.I64Sub = ops.I64Sub
  const_op_of plain.I64Mul = ops.I64Mul
  const_op_of (plain.StructNew type) = ops.StructNew (index_of type)
  const_op_of (plain.StructNewDefault type) = ops.StructNewDefault (index_of type)
  const_op_of (plain.ArrayNew type) = ops.ArrayNew (index_of type)
  const_op_of (plain.ArrayNewDefault type) = ops.ArrayNewDefault (index_of type)
  const_op_of (plain.ArrayNewFixed type size) = ops.ArrayNewFixed (index_of type) size
  const_op_of plain.ExternConvertAny = ops.ExternConvertAny
  const_op_of plain.AnyConvertExtern = ops.AnyConvertExtern

-- the inverse; of a null reference the heap type is lost
abbrev pub operator_of : ConstOp → Operator
operator_of (ops.I32Const value) = plain.I32Const value
operator_of (ops.I64Const value) = plain.I64Const value
operator_of (ops.F32Const bits) = plain.F32Const bits
operator_of (ops.F64Const bits) = plain.F64Const bits
operator_of (ops.V128Const value) = plain.V128Const value
operator_of (ops.GlobalGet global) = plain.GlobalGet (number_of global)
operator_of ops.RefI31 = plain.RefI31
operator_of (ops.RefNull heap) = plain.RefNull (Abstract Any)
operator_of (ops.RefFunc function) = plain.RefFunc (number_of function)
operator_of ops.I32Add = plain.I32Add
operator_of ops.I32Sub = plain.I32Sub
operator_of ops.I32Mul = plain.I32Mul
operator_of ops.I64Add = plain.I64Add
operator_of ops.I64Sub = plain.I64Sub
operator_of ops.I64Mul = plain.I64Mul
operator_of (ops.StructNew type) = plain.StructNew (number_of type)
operator_of (ops.StructNewDefault type) = plain.StructNewDefault (number_of type)
operator_of (ops.ArrayNew type) = plain.ArrayNew (number_of type)
operator_of (ops.ArrayNewDefault type) = plain.ArrayNewDefault (number_of type)
operator_of (ops.ArrayNewFixed type size) = plain.ArrayNewFixed (number_of type) size
operator_of ops.ExternConvertAny = plain.ExternConvertAny
operator_of ops.AnyConvertExtern = plain.AnyConvertExtern

-- the name of an operator in the text format (core specification, 6.5, instructions)
abbrev pub name_of_operator : ConstOp → List ℕ
name_of_operator (ops.I32Const value) = codes "i32.const"
name_of_operator (ops.I64Const value) = codes "i64.const"
name_of_operator (ops.F32Const bits) = codes "f32.const"
name_of_operator (ops.F64Const bits) = codes "f64.const"
name_of_operator (ops.V128Const bits) = codes "v128.const"
name_of_operator (ops.GlobalGet global) = codes "global.get"
name_of_operator ops.RefI31 = codes "ref.i31"
name_of_operator (ops.RefNull heap) = codes "ref.null"
name_of_operator (ops.RefFunc function) = codes "ref.func"
name_of_operator ops.I32Add = codes "i32.add"
name_of_operator ops.I32Sub = codes "i32.sub"
name_of_operator ops.I32Mul = codes "i32.mul"
name_of_operator ops.I64Add = codes "i64.add"
name_of_operator ops.I64Sub = codes "i64.sub"
name_of_operator ops.I64Mul = codes "i64.mul"
name_of_operator (ops.StructNew type) = codes "struct.new"
name_of_operator (ops.StructNewDefault type) = codes "struct.new_default"
name_of_operator (ops.ArrayNew type) = codes "array.new"
name_of_operator (ops.ArrayNewDefault type) = codes "array.new_default"
name_of_operator (ops.ArrayNewFixed type size) = codes "array.new_fixed"
name_of_operator ops.ExternConvertAny = codes "extern.convert_any"
name_of_operator ops.AnyConvertExtern = codes "any.convert_extern"

-- what follows the name
abbrev pub operands_of : ConstOp → Operands
operands_of (ops.I32Const value) = operand.I32 value
operands_of (ops.I64Const value) = operand.I64 value
operands_of (ops.F32Const bits) = operand.Bits32 bits
operands_of (ops.F64Const bits) = operand.Bits64 bits
operands_of (ops.V128Const bits) = operand.Bits128 bits
operands_of (ops.GlobalGet global) = operand.Index (number_of global)
operands_of (ops.RefNull heap) = operand.Heap heap
operands_of (ops.RefFunc function) = operand.Index (number_of function)
operands_of (ops.StructNew type) = operand.Index (number_of type)
operands_of (ops.StructNewDefault type) = operand.Index (number_of type)
operands_of (ops.ArrayNew type) = operand.Index (number_of type)
operands_of (ops.ArrayNewDefault type) = operand.Index (number_of type)
operands_of (ops.ArrayNewFixed type size) = operand.IndexAndSize (number_of type) size
operands_of _ = operand.None

-- an operator by its position in the enumeration
abbrev pub place_of_operator : ConstOp → ℕ
place_of_operator (ops.I32Const n) = 0
place_of_operator (ops.I64Const n) = 1
place_of_operator (ops.F32Const bits) = 2
place_of_operator (ops.F64Const bits) = 3
place_of_operator (ops.V128Const bits) = 4
place_of_operator (ops.GlobalGet g) = 5
place_of_operator ops.RefI31 = 6
place_of_operator (ops.RefNull h) = 7
place_of_operator (ops.RefFunc f) = 8
place_of_operator ops.I32Add = 9
place_of_operator ops.I32Sub = 10
place_of_operator ops.I32Mul = 11
place_of_operator ops.I64Add = 12
place_of_operator ops.I64Sub = 13
place_of_operator ops.I64Mul = 14
place_of_operator (ops.StructNew t) = 15
place_of_operator (ops.StructNewDefault t) = 16
place_of_operator (ops.ArrayNew t) = 17
place_of_operator (ops.ArrayNewDefault t) = 18
place_of_operator (ops.ArrayNewFixed t size) = 19
place_of_operator ops.ExternConvertAny = 20
place_of_operator ops.AnyConvertExtern = 21

-- what an operator is converted to: the same operator, with its indices typed by their lists; of a
-- null reference the heap type is converted, which is lost in what it is converted back to
pub record Conversion (look : LookUp) (read : Operator) : Type 0 where
  pub op : ConstOp
  pub same : operator_of op ≡ any_null read
  pub null : (heap : HeapType) → read ≡ plain.RefNull heap → op ≡ ops.RefNull (heap_type_of look heap)

back : (look : LookUp) (read : Operator) → operator_of (const_op_of look read) ≡ any_null read
back look (plain.RefNull heap) = refl
back look read = refl

null_is : (look : LookUp) (read : Operator) (heap : HeapType) → read ≡ plain.RefNull heap → const_op_of look read ≡ ops.RefNull (heap_type_of look heap)
null_is look read heap is = ap (const_op_of look) is

-- each operator has one conversion
pub conversion : (look : LookUp) (read : Operator) → Conversion look read
conversion look read = record { op = const_op_of look read; same = back look read; null = null_is look read }

pub conversion-is : (look : LookUp) (read : Operator) → (conversion look read).op ≡ const_op_of look read
unfolding conversion
conversion-is look read = refl

-- the result of a constant, a sum, a difference or a product, from as many values as it pops; none
-- for another operator
abbrev pub plain_result : ConstOp → List Value → Option Value
plain_result op taken = let a = action [] (λ t. 0) (operator_of op) in
    if is_plain (operator_of op) then (if nat_eq (length taken) a.takes then a.makes taken else None) else None

-- an operator that can be converted: its index is below the reserved one, its heap type is known
module _ (known : UnpackedIndex → Type 0) where
  abbrev pub KnowsOperator : Operator → Type 0
  KnowsOperator (plain.GlobalGet global) = global < 4294967295
  KnowsOperator (plain.RefNull heap) = KnowsHeap known heap
  KnowsOperator (plain.RefFunc function) = function < 4294967295
  KnowsOperator (plain.StructNew type) = type < 4294967295
  KnowsOperator (plain.StructNewDefault type) = type < 4294967295
  KnowsOperator (plain.ArrayNew type) = type < 4294967295
  KnowsOperator (plain.ArrayNewDefault type) = type < 4294967295
  KnowsOperator (plain.ArrayNewFixed type size) = type < 4294967295
  KnowsOperator _ = ⊤
