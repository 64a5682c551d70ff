-- What the entries of a module's lists hold, counted.
use Rattle.std.specs.Prelude.{ℕ, ◌+◌, [], length, sum_by, unwrap_or}
use Rattle.std.specs.List.{flat_map}
use Rattle.wasm_spec.specs.declared.types.UnpackedIndex.{UnpackedIndex}
use Rattle.wasm_spec.specs.TypeData.{Composite, Func, Array, Struct, Cont, Exn, SubType}
use Rattle.wasm_spec.specs.Module.{Import, TableDef, GlobalDef, Export, ElementKind, PassiveElement, DeclaredElement, ActiveElement, ElementItems, Functions, Expressions, Element, DataKind, Passive, Active, Segment, Payload, Custom, Module, groups, types, imports, function_types_of_section, tables_of_section, memories_of_section, tags_of_section, globals_of_section, exports_of_section, elements_of_section, bodies_of_section, segments}

-- the fields of a type, or its parameters and results
abbrev pub composite_parts : Composite UnpackedIndex UnpackedIndex → ℕ
composite_parts (Func f) = length f.params + length f.results
composite_parts (Array field) = 1
composite_parts (Struct fields) = length fields
composite_parts (Cont function) = 0
composite_parts (Exn e) = length e.fields

abbrev pub member_parts : SubType UnpackedIndex UnpackedIndex → ℕ
member_parts t = composite_parts t.composite.inner

-- the bytes of the two names of an import
abbrev pub import_name_bytes : Import → ℕ
import_name_bytes i = length i.space + length i.name

abbrev pub export_name_bytes : Export → ℕ
export_name_bytes e = length e.name

-- the operators of what the cells of a table hold at first
abbrev pub cell_operators : TableDef → ℕ
cell_operators t = length (unwrap_or t.init [])

-- the operators of the first value of a global
abbrev pub first_operators : GlobalDef → ℕ
first_operators g = length g.init

-- the operators of the offset of an active element segment
abbrev pub kind_operators : ElementKind → ℕ
kind_operators PassiveElement = 0
kind_operators DeclaredElement = 0
kind_operators (ActiveElement table offset) = length offset

abbrev pub element_operators : Element → ℕ
element_operators e = kind_operators e.kind

-- the items of an element segment, functions or expressions
abbrev pub count_of_items : ElementItems → ℕ
count_of_items (Functions indices) = length indices
count_of_items (Expressions type items) = length items

abbrev pub element_items : Element → ℕ
element_items e = count_of_items e.items

-- of these items, the functions
abbrev pub functions_of_items : ElementItems → ℕ
functions_of_items (Functions indices) = length indices
functions_of_items (Expressions type items) = 0

abbrev pub element_functions : Element → ℕ
element_functions e = functions_of_items e.items

-- the operators of the items that are expressions
abbrev pub operators_of_items : ElementItems → ℕ
operators_of_items (Functions indices) = 0
operators_of_items (Expressions type items) = sum_by length items

abbrev pub item_operators : Element → ℕ
item_operators e = operators_of_items e.items

-- the operators of the offset of an active data segment
abbrev pub active_operators : DataKind → ℕ
active_operators Passive = 0
active_operators (Active memory offset) = length offset

abbrev pub segment_operators : Segment → ℕ
segment_operators s = active_operators s.kind

abbrev pub segment_bytes : Segment → ℕ
segment_bytes s = length s.bytes

-- the bytes of a custom section, those of its name among them
abbrev pub custom_bytes : Payload → ℕ
custom_bytes (Custom name bytes) = length name + length bytes
custom_bytes p = 0

-- how many entries the lists of a module have
abbrev pub counted : Module → ℕ
counted m =
    length (groups m) + length (types m) + length (imports m) + length (flat_map function_types_of_section m)
    + length (flat_map tables_of_section m) + length (flat_map memories_of_section m) + length (flat_map tags_of_section m)
    + length (flat_map globals_of_section m) + length (flat_map exports_of_section m) + length (flat_map elements_of_section m)
    + length (flat_map bodies_of_section m) + length (segments m)

-- what these entries hold: parts of types, operators, items of element segments, bytes of names and
-- of data; and the bytes of custom sections
abbrev pub held : Module → ℕ
held m =
    sum_by member_parts (types m) + sum_by import_name_bytes (imports m) + sum_by export_name_bytes (flat_map exports_of_section m)
    + sum_by cell_operators (flat_map tables_of_section m) + sum_by first_operators (flat_map globals_of_section m)
    + sum_by element_operators (flat_map elements_of_section m) + sum_by element_items (flat_map elements_of_section m)
    + sum_by item_operators (flat_map elements_of_section m)
    + sum_by segment_operators (segments m) + sum_by segment_bytes (segments m) + sum_by custom_bytes m

-- all that a module lists
abbrev pub listed : Module → ℕ
listed m = counted m + held m
