-- How many bytes the text of a plan has at most, by what it lists.
use Rattle.std.specs.Prelude.{ℕ, ◌+◌, ◌*◌, ◌≤◌, List, [], length, sum_by, count_by, is_some, slice_get, unwrap_or, Option, Some, None}
use Rattle.entity_map.specs.Pool.{atom_number}
use Rattle.entity_map.specs.declared.pool.Atom.{Atom}
use Rattle.wasm_index.specs.declared.index.Index.{Index}
use Rattle.wasm_index.specs.declared.spaces.MemorySpace.{MemorySpace}
use Rattle.wasm_index.specs.declared.spaces.RuntimeDataSpace.{RuntimeDataSpace}
use Rattle.wasm_types.specs.declared.composite.WasmCompositeInnerType.{WasmCompositeInnerType}
use Rattle.wasm_types.specs.declared.composite.WasmCompositeInnerType.TheVariants as inner
use Rattle.wasm_types.specs.declared.sub.WasmSubType.{WasmSubType}
use Rattle.wasm_module.specs.declared.initializer.Initializer.{Initializer}
use Rattle.wasm_module.specs.declared.initializer.Initializer.TheVariants.{Import}
use Rattle.wasm_module.specs.declared.memory_initialization.MemoryInitialization.{MemoryInitialization}
use Rattle.wasm_module.specs.declared.memory_initialization.MemoryInitialization.TheVariants as initialization
use Rattle.wasm_module.specs.declared.table_initialization.TableInitialValue.{TableInitialValue}
use Rattle.wasm_module.specs.declared.table_initialization.TableInitialValue.TheVariants as initial
use Rattle.gc_layout.specs.declared.object.GcLayout.{GcLayout}
use Rattle.gc_layout.specs.declared.object.GcLayout.TheVariants as layout
use Rattle.init_plan.specs.declared.translation.MemoryInit.{MemoryInit}
use Rattle.init_plan.specs.declared.translation.MemoryInit.TheVariants as init
use Rattle.init_plan.specs.declared.translation.MemorySegmentOffset.{MemorySegmentOffset}
use Rattle.init_plan.specs.declared.translation.MemorySegmentOffset.TheVariants as offset
use Rattle.plan_text.specs.declared.plan.Plan.{Plan}
use Rattle.plan_text.specs.PlanText.{text_of_plan}

-- ---- what a thing that has a line lists in it

-- the fields of a type, or its parameters and results
abbrev pub parts_of : WasmCompositeInnerType → ℕ
parts_of (inner.Array t) = 1
parts_of (inner.Func t) = length t.params + length t.results
parts_of (inner.Struct t) = length t
parts_of (inner.Cont t) = 0
parts_of (inner.Exn t) = length t.fields

abbrev pub type_parts : WasmSubType → ℕ
type_parts t = parts_of t.composite_type.inner

-- the operators of the first value of a table
abbrev pub value_operators : TableInitialValue → ℕ
value_operators initial.Null = 0
value_operators (initial.Expr e) = length e

-- the operators of the place of a data segment
abbrev pub place_operators : MemorySegmentOffset → ℕ
place_operators (offset.Expr e) = length e
place_operators (offset.Static place) = 0

-- the fields of the layout of a struct or an exception
abbrev pub layout_fields : Option GcLayout → ℕ
layout_fields (Some (layout.Struct s)) = length s.value.fields
layout_fields o = 0

-- the bytes of a name of a pool
abbrev pub name_bytes : List (List ℕ) → Atom → ℕ
name_bytes pool name = length (unwrap_or (slice_get pool (atom_number name)) [])

abbrev pub import_bytes : List (List ℕ) → Initializer → ℕ
import_bytes pool (Import name field e) = name_bytes pool name + name_bytes pool field

abbrev pub module_name_bytes : List (List ℕ) → Option Atom → ℕ
module_name_bytes pool None = 0
module_name_bytes pool (Some name) = name_bytes pool name

-- ---- what the text of a plan lists

-- the images of memories that begin as images
abbrev pub images_in : MemoryInitialization → List (Option (ℕ × Index RuntimeDataSpace))
images_in initialization.Segmented = []
images_in (initialization.Static images) = images

-- the data segments that are planned
abbrev pub segments_in : MemoryInit → List (Index MemorySpace × MemorySegmentOffset × Index RuntimeDataSpace)
segments_in (init.Unprocessed segments) = []
segments_in (init.Processed segments) = segments.items

-- lines of counts, sizes and regions, and lines of which there is at most one
abbrev pub single_lines : ℕ
single_lines = 28

-- the lines: one for each thing that a plan lists, and for a function two, if it escapes and has
-- hints; of data segments only those that are planned or are passive
abbrev pub lines_of : Plan → ℕ
lines_of plan = let t = plan.translation in let m = t.module in
    single_lines + length plan.types.types + length plan.types.groups + length plan.layouts
    + length m.types + length m.initializers.items + length m.exports.entries + 2 * length m.functions + length t.exported_signatures.items
    + length t.debuginfo.name_section.func_names.entries + length m.global_initializers.items + length t.global_initializers.items
    + length t.table_initialization.initial_values + length m.table_initialization + length t.table_initialization.segments.items + length m.passive_elements
    + length (images_in m.memory_initialization) + length (segments_in t.memory_init) + count_by is_some t.runtime_data_map.items + length m.runtime_data

-- what stands in these lines: parts of types, operators of expressions, and fields of layouts
abbrev pub parts_in : Plan → ℕ
parts_in plan = let t = plan.translation in
    sum_by type_parts plan.types.types + sum_by layout_fields plan.layouts
    + sum_by (λ g. length g.1) t.global_initializers.items + sum_by value_operators t.table_initialization.initial_values
    + sum_by (λ s. length s.offset) t.table_initialization.segments.items + sum_by (λ s. place_operators s.1) (segments_in t.memory_init)

-- the cells of the images of tables
abbrev pub cells_in : Plan → ℕ
cells_in plan = sum_by (λ image. length image.items) plan.translation.module.table_initialization

-- the bytes of names
abbrev pub names_in : Plan → ℕ
names_in plan = let m = plan.translation.module in
    sum_by (import_bytes m.strings) m.initializers.items + sum_by (λ export. name_bytes m.strings export.0) m.exports.entries
    + module_name_bytes m.strings m.name + sum_by (λ name. length name.1.now) plan.translation.debuginfo.name_section.func_names.entries

-- ---- how long the text is

-- the most bytes of a line without what it lists, of a part, of a cell, and of a byte of a name
abbrev pub line_bytes : ℕ
line_bytes = 128

abbrev pub part_bytes : ℕ
part_bytes = 48

abbrev pub cell_bytes : ℕ
cell_bytes = 11

abbrev pub escape_bytes : ℕ
escape_bytes = 3

abbrev pub most_text : Plan → ℕ
most_text plan = line_bytes * lines_of plan + part_bytes * parts_in plan + cell_bytes * cells_in plan + escape_bytes * names_in plan

abbrev pub TextAtMost : Plan → Type 0
TextAtMost plan = length (text_of_plan plan) ≤ most_text plan
