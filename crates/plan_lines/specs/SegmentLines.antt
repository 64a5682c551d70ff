-- The lines of what is written at the start: element segments, first values of tables, and data
-- segments.
use Rattle.std.specs.Prelude.{ℕ, List, [], ◌++◌, codes, decimal}
use Rattle.std.specs.List.{flat_map}
use Rattle.wasm_index.specs.declared.index.Index.{Index}
use Rattle.wasm_index.specs.declared.spaces.DefinedTableSpace.{DefinedTableSpace}
use Rattle.wasm_index.specs.Index.{number_of}
use Rattle.wasm_convert.specs.declared.operators.ConstOp.{ConstOp}
use Rattle.wasm_module.specs.declared.memory_initialization.MemoryInitialization.{MemoryInitialization}
use Rattle.wasm_module.specs.declared.memory_initialization.MemoryInitialization.TheVariants as initialization
use Rattle.wasm_module.specs.declared.table_initialization.TableInitialValue.{TableInitialValue}
use Rattle.wasm_module.specs.declared.table_initialization.TableInitialValue.TheVariants as initial
use Rattle.wasm_module.specs.declared.table_initialization.TableSegment.{TableSegment}
use Rattle.wasm_module.specs.Elements.{element_count}
use Rattle.init_plan.specs.declared.translation.MemoryInit.{MemoryInit}
use Rattle.init_plan.specs.declared.translation.MemoryInit.TheVariants as init
use Rattle.init_plan.specs.declared.translation.MemorySegmentOffset.{MemorySegmentOffset}
use Rattle.init_plan.specs.declared.translation.MemorySegmentOffset.TheVariants as offset
use Rattle.plan_lines.specs.Expressions.{expression_text}
use Rattle.plan_lines.specs.Numbers.{keyed_lines, named_number}
use Rattle.plan_lines.specs.MemoryLines.{image_lines}

-- a table whose cells begin as the value of an expression
unfoldable pub table_expression_line : Index DefinedTableSpace → List ConstOp → List ℕ
table_expression_line table e = named_number (codes "table-expr") (number_of table) ++ codes " " ++ expression_text e ++ codes "\n"

-- a table of null references has no line
abbrev pub table_value_lines : Index DefinedTableSpace → TableInitialValue → List ℕ
table_value_lines table initial.Null = []
table_value_lines table (initial.Expr e) = table_expression_line table e

-- an active element segment: its table, the number of its elements, and its offset
unfoldable pub element_line : TableSegment → List ℕ
element_line s =
    codes "element " ++ decimal (number_of s.table_index) ++ codes " " ++ decimal (element_count s.elements)
    ++ codes " at " ++ expression_text s.offset ++ codes "\n"

abbrev pub initialization_line : MemoryInitialization → List ℕ
initialization_line initialization.Segmented = codes "memory-init segmented\n"
initialization_line (initialization.Static images) = codes "memory-init static\n"

-- the images of memories that begin as images
abbrev pub initialization_images : MemoryInitialization → List ℕ
initialization_images initialization.Segmented = []
initialization_images (initialization.Static images) = keyed_lines image_lines images

-- where a planned segment begins
abbrev pub offset_text : MemorySegmentOffset → List ℕ
offset_text (offset.Expr e) = expression_text e
offset_text (offset.Static place) = codes "static " ++ decimal place

-- a planned segment: its memory, its runtime data and its offset
unfoldable pub segment_line : ℕ → ℕ → MemorySegmentOffset → List ℕ
segment_line memory index place = codes "segment " ++ decimal memory ++ codes " " ++ decimal index ++ codes " at " ++ offset_text place ++ codes "\n"

abbrev pub segment_lines : MemoryInit → List ℕ
segment_lines (init.Unprocessed segments) = []
segment_lines (init.Processed segments) = flat_map (λ s. segment_line (number_of s.0) (number_of s.2) s.1) segments.items
