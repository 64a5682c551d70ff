-- Operators of constant expressions as they were read, as rows.
use Rattle.wasm_spec.specs.declared.operators.Operator.{Operator}
use Rattle.wasm_spec.specs.declared.operators.Operator.TheVariants as plain
use Rattle.type_spec.specs.Names.{FuncName}
use Rattle.wasm_index.specs.Index.{index_of}
use Rattle.wasm_types.specs.declared.index.EngineOrModuleTypeIndex.TheVariants.{Module}
use Rattle.wasm_convert.specs.declared.operators.ConstOp.{ConstOp}
use Rattle.wasm_convert.specs.Conversion.{LookUp}
use Rattle.wasm_convert.specs.Operators.{const_op_of}
use Rattle.plan_tables.specs.declared.rows.OperatorRow.{OperatorRow}
use Rattle.plan_tables.specs.Operators as rows
use Rattle.plan_tables.specs.Bodies.{read_heap_number, read_index_list, read_index_number}

-- a type for each index: no row shows which
abbrev pub one_type : LookUp
one_type i = record { kind = FuncName; index = Module (index_of 0) }

-- the operator of a plan with the same code and the same operands, but for types
abbrev pub converted : Operator → ConstOp
converted op = const_op_of one_type op

-- the row of that operator; of a null reference the type section has the type
abbrev pub operator_row : Operator → OperatorRow
operator_row (plain.RefNull h) = record (rows.operator_row (converted (plain.RefNull h))) {
  heap = read_heap_number h;
  list = read_index_list h;
  index = read_index_number h;
}
operator_row op = rows.operator_row (converted op)
