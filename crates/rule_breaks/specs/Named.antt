-- What an entry names: the type indices of its references (core specification, 3.2, heap types), and
-- the tables, functions and memories of segments (3.5).
use Rattle.std.specs.Prelude.{ℕ, List, [], ◌∷◌, ◌++◌, option_to_list, unwrap_or}
use Rattle.std.specs.List.{flat_map}
use Rattle.wasm_spec.specs.declared.entities.TypeRef.{TypeRef}
use Rattle.wasm_spec.specs.declared.entities.TypeRef.TheVariants as imported
use Rattle.wasm_spec.specs.declared.operators.Operator.{Operator}
use Rattle.wasm_spec.specs.declared.operators.Operator.TheVariants as op
use Rattle.wasm_spec.specs.declared.types.HeapType.{HeapType}
use Rattle.wasm_spec.specs.declared.types.UnpackedIndex.{UnpackedIndex}
use Rattle.wasm_spec.specs.declared.types.ValType.{ValType}
use Rattle.wasm_spec.specs.TypeData.{heap_of, value_of, heap_edges, value_edges}
use Rattle.wasm_spec.specs.Module.{Expression, TableDef, GlobalDef, ElementKind, ActiveElement, ElementItems, Functions, Expressions, Element, Body, DataKind, Passive, Active}
use Rattle.rule_breaks.specs.declared.fault.IndexSpace.{IndexSpace}
use Rattle.rule_breaks.specs.declared.fault.IndexSpace.TheVariants as space

-- ---- type indices

abbrev pub heap_types : HeapType → List UnpackedIndex
heap_types h = heap_edges (λ i. i) (heap_of h)

abbrev pub value_types : ValType → List UnpackedIndex
value_types v = value_edges (λ i. i) (value_of v)

abbrev pub import_types : TypeRef → List UnpackedIndex
import_types (imported.Table t) = heap_types t.element_type.heap
import_types (imported.Global t) = value_types t.content_type
import_types _ = []

-- of the operators only `ref.null` has a reference
abbrev pub operator_types : Operator → List UnpackedIndex
operator_types (op.RefNull heap) = heap_types heap
operator_types _ = []

abbrev pub expression_types : Expression → List UnpackedIndex
expression_types e = flat_map operator_types e

abbrev pub table_types : TableDef → List UnpackedIndex
table_types t = heap_types t.type.element_type.heap ++ flat_map expression_types (option_to_list t.init)

abbrev pub global_types : GlobalDef → List UnpackedIndex
global_types g = value_types g.type.content_type ++ expression_types g.init

abbrev pub offset_types : ElementKind → List UnpackedIndex
offset_types (ActiveElement table offset) = expression_types offset
offset_types _ = []

abbrev pub item_types : ElementItems → List UnpackedIndex
item_types (Functions indices) = []
item_types (Expressions type items) = heap_types type.heap ++ flat_map expression_types items

abbrev pub element_types : Element → List UnpackedIndex
element_types e = offset_types e.kind ++ item_types e.items

abbrev pub body_types : Body → List UnpackedIndex
body_types b = flat_map (λ (run : ℕ × ValType). value_types run.1) b.locals

abbrev pub segment_types : DataKind → List UnpackedIndex
segment_types Passive = []
segment_types (Active memory offset) = expression_types offset

-- ---- indices of segments

-- an active element segment names a table; without an index it is table 0
abbrev pub table_indices : ElementKind → List ℕ
table_indices (ActiveElement table offset) = unwrap_or table 0 ∷ []
table_indices _ = []

abbrev pub function_indices : ElementItems → List ℕ
function_indices (Functions indices) = indices
function_indices (Expressions type items) = []

abbrev pub element_indices : Element → IndexSpace → List ℕ
element_indices e space.Tables = table_indices e.kind
element_indices e space.Functions = function_indices e.items
element_indices e _ = []

abbrev pub memory_indices : DataKind → List ℕ
memory_indices Passive = []
memory_indices (Active memory offset) = memory ∷ []
