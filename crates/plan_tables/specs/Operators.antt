-- Operators of constant expressions as numbers.
use Rattle.std.specs.Prelude.{ℕ, ◌^◌, ◌/◌, ◌%◌}
use Rattle.std.specs.Int.{cast_unsigned, w32, w64}
use Rattle.wasm_types.specs.Indices.{heap_index}
use Rattle.wasm_convert.specs.declared.operators.ConstOp.{ConstOp}
use Rattle.wasm_convert.specs.declared.operands.Operands.{Operands}
use Rattle.wasm_convert.specs.declared.operands.Operands.TheVariants as operand
use Rattle.wasm_convert.specs.Operators.{operands_of, place_of_operator}
use Rattle.plan_tables.specs.declared.rows.OperatorRow.{OperatorRow}
use Rattle.plan_tables.specs.Values.{heap_number, index_list, index_number}

-- the global, the function or the type that it names
abbrev pub index_operand : Operands → ℕ
index_operand (operand.Index index) = index
index_operand (operand.Heap h) = index_number (heap_index h)
index_operand (operand.IndexAndSize index size) = index
index_operand _ = 0

-- the bits of a constant, of a vector the lower half; a number of elements
abbrev pub low_operand : Operands → ℕ
low_operand (operand.I32 n) = cast_unsigned w32 n
low_operand (operand.I64 n) = cast_unsigned w64 n
low_operand (operand.Bits32 bits) = bits
low_operand (operand.Bits64 bits) = bits
low_operand (operand.Bits128 bits) = bits % 2 ^ 64
low_operand (operand.IndexAndSize index size) = size
low_operand _ = 0

abbrev pub high_operand : Operands → ℕ
high_operand (operand.Bits128 bits) = bits / 2 ^ 64
high_operand _ = 0

abbrev pub heap_operand : Operands → ℕ
heap_operand (operand.Heap h) = heap_number h
heap_operand _ = 0

abbrev pub list_operand : Operands → ℕ
list_operand (operand.Heap h) = index_list (heap_index h)
list_operand _ = 0

-- an operator by its position in the enumeration, and its operands
abbrev pub operator_row : ConstOp → OperatorRow
operator_row op = record {
  code = place_of_operator op;
  heap = heap_operand (operands_of op);
  list = list_operand (operands_of op);
  index = index_operand (operands_of op);
  low = low_operand (operands_of op);
  high = high_operand (operands_of op);
}
