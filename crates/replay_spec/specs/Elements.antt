-- The element phase of a module: what its active element segments leave in its tables (core
-- specification, 4.7, instantiation).
use Rattle.std.specs.Prelude.{ℕ, ◌-◌, Bool, true, false, nat_lt, List, [], ◌++◌, length, map, slice_index, slice_get, unwrap_or, Option, None, Some, if◌then◌else◌}
use Rattle.std.specs.List.{filter_map}
use Rattle.wasm_spec.specs.declared.types.HeapType.{HeapType}
use Rattle.wasm_spec.specs.declared.types.HeapType.TheVariants as heap
use Rattle.wasm_spec.specs.declared.types.AbstractHeapType.TheVariants as abstract
use Rattle.wasm_spec.specs.declared.types.RefType.{RefType}
use Rattle.wasm_spec.specs.declared.types.UnpackedIndex.{UnpackedIndex}
use Rattle.wasm_spec.specs.declared.types.UnpackedIndex.TheVariants as index
use Rattle.wasm_spec.specs.TypeData.{Composite, Func}
use Rattle.wasm_spec.specs.Module.{Expression, ElementItems, ElementKind, ActiveElement, Element, TableDef}
use Rattle.wasm_spec.specs.Module as read
use Rattle.rule_spec.specs.Lists.{Lists, kind_at}
use Rattle.replay_spec.specs.Phases.{Piece, Phase}
use Rattle.replay_spec.specs.Values.{Value, Ref, Null, Func as function, eval, offset_over}

-- what a segment writes: functions, or the values of expressions of a type
pub data Items (T E : Type 0) : Type 0 where
  Functions : (indices : List ℕ) → Items T E
  Expressions : (type : T) (items : List E) → Items T E

-- items that are written to a table at an offset
pub record ActiveItems (T E : Type 0) : Type 0 where
  pub table : ℕ
  pub offset : E
  pub items : Items T E

-- an active segment without the type of its items, which says nothing about the cells
abbrev pub ActiveElements : Type 0
ActiveElements = ActiveItems (Unit {0}) Expression

-- a defined table: its minimum size in cells, whether its heap type has functions on top, and what
-- its cells hold at first
pub record DefinedTable : Type 0 where
  pub minimum : ℕ
  pub functions : Bool
  pub initial : Option Expression

-- ---- cells hold references

-- the value of an expression, and null where it has none
abbrev pub value_or_null : Option Value → Value
value_or_null None = Ref Null
value_or_null (Some v) = v

-- a module's element segments are written over the values of the globals and how many fields each
-- struct type has
module _ (globals : List Value) (fields : ℕ → ℕ) where
  abbrev pub cell_of : Expression → Value
  cell_of e = value_or_null (eval globals fields e)

  abbrev pub item_cells : Items (Unit {0}) Expression → List Value
  item_cells (Functions indices) = map (λ k. Ref (function k)) indices
  item_cells (Expressions type items) = map cell_of items

  abbrev pub elements_piece : ActiveElements → Piece Value
  elements_piece s = record { object = s.table; offset = offset_over globals fields s.offset; items = item_cells s.items }

  -- the value of an initialiser, or null without one
  abbrev pub initial_cell : Option Expression → Value
  initial_cell None = Ref Null
  initial_cell (Some e) = cell_of e

  -- what the cells of a defined table hold at first, and null where there is no table
  abbrev pub first_cell : Option DefinedTable → Value
  first_cell None = Ref Null
  first_cell (Some t) = initial_cell t.initial

-- an imported table is as long as its contents, a defined one has its minimum size
abbrev pub table_sizes : List (List Value) → List ℕ → ℕ → ℕ
table_sizes imported defined i = slice_index (map length imported ++ defined) i

-- an imported table holds its contents at first; the cells of a defined one are given by its index
-- among the defined ones
abbrev pub table_base : List (List Value) → (ℕ → ℕ → Value) → ℕ → ℕ → Value
table_base imported defined i place =
    if nat_lt i (length imported) then value_or_null (slice_get (unwrap_or (slice_get imported i) []) place) else defined (i - length imported) place

-- over the contents of the imported tables and the defined ones
abbrev pub elements_phase : List Value → (ℕ → ℕ) → List (List Value) → List DefinedTable → List ActiveElements → Phase Value
elements_phase globals fields imported tables active = record {
  sizes = table_sizes imported (map (λ t. t.minimum) tables);
  base = table_base imported (λ i place. first_cell globals fields (slice_get tables i));
  pieces = map (elements_piece globals fields) active;
}

-- ---- of a module

-- where each type and each expression becomes another value
module _ {T E : Type 0} (type_by : RefType → T) (expression_by : Expression → E) where
  abbrev pub items_by : ElementItems → Items T E
  items_by (read.Functions indices) = Functions indices
  items_by (read.Expressions type items) = Expressions (type_by type) (map expression_by items)

  -- a table that is not named is the first
  abbrev pub active_by : ElementKind → ElementItems → Option (ActiveItems T E)
  active_by (ActiveElement table offset) items =
      Some (record { table = unwrap_or table 0; offset = expression_by offset; items = items_by items })
  active_by _ items = None

  abbrev pub active_items_by : List Element → List (ActiveItems T E)
  active_items_by elements = filter_map (λ e. active_by e.kind e.items) elements

-- the active element segments, in order
abbrev pub active_elements : List Element → List ActiveElements
active_elements elements = active_items_by (λ type. tt) (λ e. e) elements

abbrev pub is_function_type : Option (Composite UnpackedIndex UnpackedIndex) → Bool
is_function_type (Some (Func type)) = true
is_function_type _ = false

-- a heap type of functions: `func`, `nofunc`, or a declared function type (core specification, 3.3, matching)
abbrev pub has_functions_on_top : Lists → HeapType → Bool
has_functions_on_top l (heap.Abstract abstract.Func) = true
has_functions_on_top l (heap.Abstract abstract.NoFunc) = true
has_functions_on_top l (heap.Concrete (index.Module i)) = is_function_type (kind_at l i)
has_functions_on_top l _ = false

abbrev pub defined_table : Lists → TableDef → DefinedTable
defined_table l t =
    record { minimum = t.type.initial; functions = has_functions_on_top l t.type.element_type.heap; initial = t.init }

-- the tables of the table section, in order
abbrev pub defined_tables : Lists → List DefinedTable
defined_tables l = map (defined_table l) l.tables
