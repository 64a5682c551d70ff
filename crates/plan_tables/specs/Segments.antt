-- What the tables say of segments that remain to be written.
use Rattle.std.specs.Prelude.{ℕ, List, [], ◌∷◌}
use Rattle.std.specs.Int.{cast_unsigned, w32, w64}
use Rattle.wasm_index.specs.declared.index.Index.{Index}
use Rattle.wasm_index.specs.declared.spaces.MemorySpace.{MemorySpace}
use Rattle.wasm_index.specs.declared.spaces.RuntimeDataSpace.{RuntimeDataSpace}
use Rattle.wasm_index.specs.Index.{number_of}
use Rattle.wasm_convert.specs.declared.operators.ConstOp.{ConstOp}
use Rattle.wasm_convert.specs.declared.operators.ConstOp.TheVariants as ops
use Rattle.wasm_module.specs.declared.table_initialization.TableSegment.{TableSegment}
use Rattle.wasm_module.specs.Elements.{element_count}
use Rattle.init_plan.specs.declared.translation.MemoryInit.{MemoryInit}
use Rattle.init_plan.specs.declared.translation.MemoryInit.TheVariants as init
use Rattle.init_plan.specs.declared.translation.MemorySegmentOffset.{MemorySegmentOffset}
use Rattle.init_plan.specs.declared.translation.MemorySegmentOffset.TheVariants as offset
use Rattle.plan_tables.specs.declared.rows.ElementsRow.{ElementsRow}
use Rattle.plan_tables.specs.declared.rows.SegmentRow.{SegmentRow}

-- the kind and the number of an offset: 1 a constant and its bits, 2 a global and its index, 3
-- anything else
abbrev pub operator_place : ConstOp → ℕ × ℕ
operator_place (ops.I32Const n) = (1, cast_unsigned w32 n)
operator_place (ops.I64Const n) = (1, cast_unsigned w64 n)
operator_place (ops.GlobalGet g) = (2, number_of g)
operator_place _ = (3, 0)

abbrev pub expression_place : List ConstOp → ℕ × ℕ
expression_place [] = (3, 0)
expression_place (op ∷ []) = operator_place op
expression_place (op ∷ next ∷ others) = (3, 0)

-- 0 the byte that was planned
abbrev pub offset_place : MemorySegmentOffset → ℕ × ℕ
offset_place (offset.Expr e) = expression_place e
offset_place (offset.Static place) = (0, place)

abbrev pub segment_row : Index MemorySpace × MemorySegmentOffset × Index RuntimeDataSpace → SegmentRow
segment_row s = record {
  memory = number_of s.0;
  runtime = number_of s.2;
  kind = (offset_place s.1).0;
  offset = (offset_place s.1).1;
}

-- the segments as they are planned
abbrev pub planned_of : MemoryInit → List (Index MemorySpace × MemorySegmentOffset × Index RuntimeDataSpace)
planned_of (init.Unprocessed segments) = []
planned_of (init.Processed segments) = segments.items

abbrev pub element_row : TableSegment → ElementsRow
element_row s = record {
  table = number_of s.table_index;
  kind = (expression_place s.offset).0;
  offset = (expression_place s.offset).1;
  count = element_count s.elements;
}
