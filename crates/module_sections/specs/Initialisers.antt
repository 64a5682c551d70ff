-- What a translated module is filled with: first values of globals, element and data segments (core
-- specification, 2.5).
use Rattle.std.specs.Prelude.{ℕ, ◌+◌, List, [], ◌∷◌, ◌++◌, map, Option, Some, None, if◌then◌else◌}
use Rattle.std.specs.List.{filter_map, enumerate_from}
use Rattle.std.specs.Option.{option_map}
use Rattle.wasm_spec.specs.declared.types.RefType.{RefType}
use Rattle.wasm_spec.specs.Module.{Expression, TableDef, GlobalDef, Element, DataKind, Passive, Active, Segment}
use Rattle.wasm_spec.specs.TypeData.{Reference, reference_of, map_reference}
use Rattle.wasm_index.specs.declared.index.Index.{Index}
use Rattle.wasm_index.specs.declared.spaces.DefinedGlobalSpace.{DefinedGlobalSpace}
use Rattle.wasm_index.specs.Index.{number_of}
use Rattle.wasm_types.specs.ValueViews.{Name, reference_of as view_reference}
use Rattle.wasm_convert.specs.declared.operators.ConstOp.{ConstOp}
use Rattle.wasm_convert.specs.Conversion.{LookUp}
use Rattle.wasm_convert.specs.Constants.{const_ops_of}
use Rattle.wasm_module.specs.declared.table_initialization.TableInitialValue.{TableInitialValue}
use Rattle.wasm_module.specs.declared.table_initialization.TableInitialValue.TheVariants as initial
use Rattle.wasm_module.specs.declared.table_initialization.TableSegment.{TableSegment}
use Rattle.wasm_module.specs.declared.table_initialization.TableSegmentElements.{TableSegmentElements}
use Rattle.wasm_module.specs.declared.table_initialization.TableSegmentElements.TheVariants as elements
use Rattle.replay_spec.specs.Values.{Value}
use Rattle.replay_spec.specs.Elements.{Items, Functions, Expressions, ActiveItems, items_by, active_items_by}
use Rattle.replay_spec.specs.Globals.{simple_of, kept_of}
use Rattle.replay_spec.specs.Startup.{is_passive, passive_elements}

-- ---- globals: those whose value is known, and the others with their initialisers, by their
-- numbers among the defined ones

abbrev pub initialisers : List GlobalDef → List (ℕ × Expression)
initialisers globals = enumerate_from 0 (map (λ g. g.init) globals)

abbrev pub known_values : List GlobalDef → List (ℕ × Value)
known_values globals = filter_map simple_of (initialisers globals)

abbrev pub left_initialisers : LookUp → List GlobalDef → List (ℕ × List ConstOp)
left_initialisers look globals = map (λ g. (g.0, const_ops_of look g.1)) (filter_map kept_of (initialisers globals))

abbrev pub view_initialiser : {C : Type 0} → (C → List ConstOp) → Index DefinedGlobalSpace × C → ℕ × List ConstOp
view_initialiser ops g = (number_of g.0, ops g.1)

-- ---- tables

abbrev pub first_values : LookUp → List TableDef → List (Option (List ConstOp))
first_values look tables = map (λ t. option_map (const_ops_of look) t.init) tables

abbrev pub view_first_value : TableInitialValue → Option (List ConstOp)
view_first_value initial.Null = None
view_first_value (initial.Expr e) = Some e

-- ---- element segments, their types and expressions converted

abbrev pub type_in : LookUp → RefType → Reference Name
type_in look type = map_reference look (reference_of type)

abbrev pub active_items : LookUp → List Element → List (ActiveItems (Reference Name) (List ConstOp))
active_items look elements = active_items_by (type_in look) (const_ops_of look) elements

abbrev pub passive_items : LookUp → List Element → List (Items (Reference Name) (List ConstOp))
passive_items look elements = map (λ e. items_by (type_in look) (const_ops_of look) e.items) (passive_elements elements)

abbrev pub view_items : TableSegmentElements → Items (Reference Name) (List ConstOp)
view_items (elements.Functions functions) = Functions (map number_of functions.items)
view_items (elements.Expressions ty expressions) = Expressions (view_reference ty) expressions.items

abbrev pub view_segment : TableSegment → ActiveItems (Reference Name) (List ConstOp)
view_segment s = record { table = number_of s.table_index; offset = s.offset; items = view_items s.elements }

-- the number of each passive segment among those, by its position among all; the first has a given one
abbrev pub passive_numbers : ℕ → List Element → List (Option ℕ)
passive_numbers next [] = []
passive_numbers next (e ∷ es) = if is_passive e.kind then Some next ∷ passive_numbers (next + 1) es else None ∷ passive_numbers next es

-- ---- data segments

abbrev pub passive_data_in : DataKind → ℕ → List ℕ → List (ℕ × List ℕ)
passive_data_in Passive index bytes = (index, bytes) ∷ []
passive_data_in (Active memory offset) index bytes = []

-- the passive ones with their indices, where the first segment has an index
abbrev pub passive_data_from : ℕ → List Segment → List (ℕ × List ℕ)
passive_data_from index [] = []
passive_data_from index (s ∷ ss) = passive_data_in s.kind index s.bytes ++ passive_data_from (index + 1) ss
