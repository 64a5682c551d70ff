-- Two plans that hold the same, field by field. Left out are capacities, seeds of hash tables,
-- where borrowed bytes lie, and the types by their ids, which are the form reader's own and which
-- no line prints.
use Rattle.std.specs.Prelude.{◌≡◌, ℕ, List, [], map, None}
use Rattle.std.specs.BTreeMap.{BTreeMap}
use Rattle.std.specs.Option.{option_map}
use Rattle.entity_map.specs.Secondary.{value_at}
use Rattle.form_reader.specs.Views.{body_of}
use Rattle.wasm_index.specs.declared.index.Index.{Index}
use Rattle.wasm_index.specs.declared.spaces.FuncSpace.{FuncSpace}
use Rattle.wasm_index.specs.declared.spaces.MemorySpace.{MemorySpace}
use Rattle.wasm_index.specs.declared.spaces.RuntimeDataSpace.{RuntimeDataSpace}
use Rattle.wasm_index.specs.Index.{number_of}
use Rattle.wasm_module.specs.declared.module.Module.{Module}
use Rattle.wasm_module.specs.Record.{record_of}
use Rattle.gc_layout.specs.Objects.{object_layout}
use Rattle.module_customs.specs.Names.{Text, named}
use Rattle.init_plan.specs.declared.translation.MemoryInit.{MemoryInit}
use Rattle.init_plan.specs.declared.translation.MemoryInit.TheVariants as init
use Rattle.init_plan.specs.declared.translation.MemorySegmentOffset.{MemorySegmentOffset}
use Rattle.init_plan.specs.declared.translation.ModuleTranslation.{ModuleTranslation}
use Rattle.init_plan.specs.Views.{hints_of, bytes_of, passive_data_of}
use Rattle.module_sections.specs.Entities.{text_at, resolved_import, resolved_export}
use Rattle.module_sections.specs.Initialisers.{view_items, view_segment}
use Rattle.module_environ.specs.Metadata.{view_function}
use Rattle.vm_offsets.specs.Layouts.{fields_of}
use Rattle.plan_text.specs.declared.plan.Plan.{Plan}

-- names are had by their texts, and all else is equal
pub record SameModule (x y : Module) : Type 0 where
  pub module_index : x.module_index ≡ y.module_index
  pub strings : x.strings ≡ y.strings
  pub name : option_map (text_at x.strings) x.name ≡ option_map (text_at y.strings) y.name
  pub imports : map (resolved_import x.strings) x.initializers.items ≡ map (resolved_import y.strings) y.initializers.items
  pub exports : map (resolved_export x.strings) x.exports.entries ≡ map (resolved_export y.strings) y.exports.entries
  pub startup : x.startup ≡ y.startup
  pub table_images : (record_of x).table_initialization ≡ (record_of y).table_initialization
  pub memory_initialization : x.memory_initialization ≡ y.memory_initialization
  pub passive_elements : x.passive_elements ≡ y.passive_elements
  pub runtime_data : (record_of x).runtime_data ≡ (record_of y).runtime_data
  pub types : x.types ≡ y.types
  pub num_imported_funcs : x.num_imported_funcs ≡ y.num_imported_funcs
  pub num_imported_tables : x.num_imported_tables ≡ y.num_imported_tables
  pub num_imported_memories : x.num_imported_memories ≡ y.num_imported_memories
  pub num_imported_globals : x.num_imported_globals ≡ y.num_imported_globals
  pub num_imported_tags : x.num_imported_tags ≡ y.num_imported_tags
  pub needs_gc_heap : x.needs_gc_heap ≡ y.needs_gc_heap
  pub num_escaped_funcs : x.num_escaped_funcs ≡ y.num_escaped_funcs
  pub functions : x.functions ≡ y.functions
  pub tables : x.tables ≡ y.tables
  pub memories : x.memories ≡ y.memories
  pub globals : x.globals ≡ y.globals
  pub global_initializers : x.global_initializers.items ≡ y.global_initializers.items
  pub tags : x.tags ≡ y.tags

-- the data segments that are left to be written, in order
abbrev pub left_of : MemoryInit → List (Index MemorySpace × MemorySegmentOffset × Index RuntimeDataSpace)
left_of (init.Unprocessed segments) = []
left_of (init.Processed segments) = segments.items

-- the names of a function's locals, by their indices
abbrev pub local_names : BTreeMap ℕ Text → List (ℕ × List ℕ)
local_names names = map (λ name. (name.0, name.1.now)) names.entries

-- a function whose locals have names, by its number
abbrev pub locals_named : Index FuncSpace × BTreeMap ℕ Text → ℕ × List (ℕ × List ℕ)
locals_named entry = (number_of entry.0, local_names entry.1)

pub record SameTranslation (t u : ModuleTranslation) : Type 0 where
  pub «module» : SameModule t.module u.module
  pub wasm : t.wasm.now ≡ u.wasm.now
  pub wasm_module_offset : t.wasm_module_offset ≡ u.wasm_module_offset
  pub bodies : map (λ input. body_of input.body) t.function_body_inputs ≡ map (λ input. body_of input.body) u.function_body_inputs
  pub signatures : t.exported_signatures.items ≡ u.exported_signatures.items
  pub module_name : option_map (λ text. text.now) t.debuginfo.name_section.module_name ≡ option_map (λ text. text.now) u.debuginfo.name_section.module_name
  pub function_names : map named t.debuginfo.name_section.func_names.entries ≡ map named u.debuginfo.name_section.func_names.entries
  pub locals_names : map locals_named t.debuginfo.name_section.locals_names.entries ≡ map locals_named u.debuginfo.name_section.locals_names.entries
  pub imported_functions : t.debuginfo.wasm_file.imported_func_count ≡ u.debuginfo.wasm_file.imported_func_count
  pub metadata : map view_function t.debuginfo.wasm_file.funcs.items ≡ map view_function u.debuginfo.wasm_file.funcs.items
  pub code_place : t.debuginfo.wasm_file.code_section_offset ≡ u.debuginfo.wasm_file.code_section_offset
  pub hints : (function : ℕ) → hints_of t function ≡ hints_of u function
  pub has_unparsed_debuginfo : t.has_unparsed_debuginfo ≡ u.has_unparsed_debuginfo
  pub data_align : t.data_align ≡ u.data_align
  pub passive : passive_data_of t ≡ passive_data_of u
  -- where there is no entry nothing is found
  pub no_default : (t.runtime_data_map.default ≡ None) × (u.runtime_data_map.default ≡ None)
  pub passive_data : (index : ℕ) → value_at t.runtime_data_map index ≡ value_at u.runtime_data_map index
  pub no_number : (t.passive_elem_map.default ≡ None) × (u.passive_elem_map.default ≡ None)
  pub passive_numbers : (index : ℕ) → value_at t.passive_elem_map index ≡ value_at u.passive_elem_map index
  pub runtime_data : map bytes_of t.runtime_data ≡ map bytes_of u.runtime_data
  pub start : t.start_func ≡ u.start_func
  pub global_initializers : t.global_initializers.items ≡ u.global_initializers.items
  pub passive_elements : map view_items t.passive_elements ≡ map view_items u.passive_elements
  pub initial_values : t.table_initialization.initial_values ≡ u.table_initialization.initial_values
  pub elements : map view_segment t.table_initialization.segments.items ≡ map view_segment u.table_initialization.segments.items
  pub segments : left_of t.memory_init ≡ left_of u.memory_init

pub record SamePlan (p q : Plan) : Type 0 where
  pub translation : SameTranslation p.translation q.translation
  pub types : p.types ≡ q.types
  pub layouts : map (option_map object_layout) p.layouts ≡ map (option_map object_layout) q.layouts
  pub offsets : fields_of p.offsets ≡ fields_of q.offsets
