-- The tables of a translated module, as the plain values of the definitions.
use Rattle.std.specs.Prelude.{ℕ, Bool, true, false, List, [], ◌∷◌, map, ◌==◌, Option, None, Some, if◌then◌else◌}
use Rattle.wasm_spec.specs.Module.{Expression}
use Rattle.wasm_index.specs.declared.index.Index.{Index}
use Rattle.wasm_index.specs.declared.spaces.FuncSpace.{FuncSpace}
use Rattle.wasm_index.specs.Index.{number_of}
use Rattle.wasm_types.specs.declared.heap.WasmHeapTopType.{WasmHeapTopType}
use Rattle.wasm_types.specs.declared.heap.WasmHeapTopType.TheVariants as top
use Rattle.wasm_types.specs.declared.table.Table.{Table}
use Rattle.wasm_types.specs.Tops.{top_of}
use Rattle.wasm_convert.specs.Constants.{expression_of}
use Rattle.wasm_module.specs.declared.table_initialization.TableInitialValue.{TableInitialValue}
use Rattle.wasm_module.specs.declared.table_initialization.TableInitialValue.TheVariants as initial
use Rattle.wasm_module.specs.declared.table_initialization.TableSegment.{TableSegment}
use Rattle.wasm_module.specs.declared.table_initialization.TableSegmentElements.{TableSegmentElements}
use Rattle.wasm_module.specs.declared.table_initialization.TableSegmentElements.TheVariants as elements
use Rattle.replay_spec.specs.Elements.{Items, Functions, Expressions, ActiveElements, DefinedTable}
use Rattle.replay_spec.specs.Tables.{PlannedTable, TablePlan}

-- a cell of an image; the reserved index represents null
abbrev pub cell_of : Index FuncSpace → Option ℕ
cell_of index = if number_of index == 4294967295 then None else Some (number_of index)

abbrev pub image_of : List (Index FuncSpace) → List (Option ℕ)
image_of indices = map cell_of indices

-- the items of a segment
abbrev pub items_of : TableSegmentElements → Items (Unit {0}) Expression
items_of (elements.Functions functions) = Functions (map number_of functions.items)
items_of (elements.Expressions ty expressions) = Expressions tt (map expression_of expressions.items)

abbrev pub active_elements_of : TableSegment → ActiveElements
active_elements_of s = record { table = number_of s.table_index; offset = expression_of s.offset; items = items_of s.elements }

abbrev pub initial_of : TableInitialValue → Option Expression
initial_of initial.Null = None
initial_of (initial.Expr e) = Some (expression_of e)

abbrev pub is_func : WasmHeapTopType → Bool
is_func top.Func = true
is_func _ = false

abbrev pub defined_table_of : Table → TableInitialValue → DefinedTable
defined_table_of t value = record { minimum = t.limits.min; functions = is_func (top_of t.ref_type.heap_type); initial = initial_of value }

-- the defined tables, each with its initial value
abbrev pub defined_tables_of : List Table → List TableInitialValue → List DefinedTable
defined_tables_of [] values = []
defined_tables_of (t ∷ ts) [] = []
defined_tables_of (t ∷ ts) (v ∷ vs) = defined_table_of t v ∷ defined_tables_of ts vs

-- the plan of the defined tables, each with its initial value and its image
abbrev pub planned_tables_of : List Table → List TableInitialValue → List (List (Option ℕ)) → List PlannedTable
planned_tables_of [] values images = []
planned_tables_of (t ∷ ts) [] images = []
planned_tables_of (t ∷ ts) (v ∷ vs) [] = []
planned_tables_of (t ∷ ts) (v ∷ vs) (image ∷ images) =
    record { minimum = t.limits.min; initial = initial_of v; image = image } ∷ planned_tables_of ts vs images

abbrev pub table_plan_of : List Table → List TableInitialValue → List TableSegment → List (List (Option ℕ)) → TablePlan
table_plan_of tables values segments images = record { tables = planned_tables_of tables values images; segments = map active_elements_of segments }
