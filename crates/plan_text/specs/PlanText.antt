-- The text of a plan, line by line.
use Rattle.std.specs.Prelude.{ℕ, List, [], ◌∷◌, ◌++◌, All, codes}
use Rattle.std.specs.List.{flat_map}
use Rattle.wasm_module.specs.Record.{record_of}
use Rattle.init_plan.specs.declared.translation.ModuleTranslation.{ModuleTranslation}
use Rattle.vm_offsets.specs.Layouts.{fields_of, pointer_of, size_of_context}
use Rattle.vm_offsets.specs.Modules.{HoldsImports}
use Rattle.vm_offsets.specs.Regions.{context_regions}
use Rattle.plan_text.specs.declared.plan.Plan.{Plan}
use Rattle.plan_lines.specs.ContextLines.{region_line}
use Rattle.plan_lines.specs.GlobalLines.{global_line, global_expression_line}
use Rattle.plan_lines.specs.HintLines.{function_hints}
use Rattle.plan_lines.specs.LayoutLines.{layout_lines}
use Rattle.plan_lines.specs.MemoryLines.{alignment_lines, passive_lines, runtime_line}
use Rattle.plan_lines.specs.ModuleLines.{HasNames, initializer_lines_from, count_lines, gc_heap_line, escape_lines, start_lines, startup_line}
use Rattle.plan_lines.specs.NameLines.{IsInPool, HasName, export_line, module_name_lines, function_name_line}
use Rattle.plan_lines.specs.Numbers.{numbers_line, keyed_lines}
use Rattle.plan_lines.specs.SegmentLines.{table_value_lines, element_line, initialization_line, initialization_images, segment_lines}
use Rattle.plan_lines.specs.TableLines.{table_image_lines, passive_element_line}
use Rattle.plan_lines.specs.TypeLines.{declared_line, signature_line}
use Rattle.plan_lines.specs.TypeListLines.{type_list_lines}

-- declared types, imports, counts, and what escapes or is exported
unfoldable pub entities_text : ModuleTranslation → List ℕ
entities_text t =
    keyed_lines declared_line t.module.types
    ++ initializer_lines_from t.module.strings 0 t.module.initializers.items
    ++ count_lines t.module
    ++ gc_heap_line t.module.needs_gc_heap
    ++ keyed_lines escape_lines t.module.functions
    ++ flat_map signature_line t.exported_signatures.items
    ++ flat_map (λ export. export_line t.module.strings export.0 export.1) t.module.exports.entries

-- the names of the module and of its functions, and the hints of branches
unfoldable pub names_text : ModuleTranslation → List ℕ
names_text t =
    module_name_lines t.module.strings t.module.name
    ++ flat_map (λ name. function_name_line name.0 name.1.now) t.debuginfo.name_section.func_names.entries
    ++ keyed_lines (function_hints t) t.module.functions

-- the start function, globals, and how tables begin
unfoldable pub tables_text : ModuleTranslation → List ℕ
tables_text t =
    start_lines t.start_func
    ++ flat_map (λ g. global_line g.0 g.1) t.module.global_initializers.items
    ++ flat_map (λ g. global_expression_line g.0 g.1) t.global_initializers.items
    ++ keyed_lines table_value_lines t.table_initialization.initial_values
    ++ keyed_lines (λ table image. table_image_lines table image.items) t.module.table_initialization
    ++ flat_map element_line t.table_initialization.segments.items
    ++ keyed_lines passive_element_line t.module.passive_elements

-- how memories begin, and runtime data
unfoldable pub memories_text : ModuleTranslation → List ℕ
memories_text t =
    initialization_line t.module.memory_initialization
    ++ alignment_lines t.data_align
    ++ initialization_images t.module.memory_initialization
    ++ segment_lines t.memory_init
    ++ keyed_lines passive_lines t.runtime_data_map.items
    ++ keyed_lines runtime_line t.module.runtime_data

-- startup, the layouts of objects, and the context region by region
unfoldable pub sizes_text : Plan → List ℕ
sizes_text plan =
    startup_line plan.translation.module.startup
    ++ keyed_lines layout_lines plan.layouts
    ++ flat_map region_line (context_regions (pointer_of plan.offsets) (fields_of plan.offsets))
    ++ numbers_line (codes "context") (size_of_context plan.offsets ∷ [])

unfoldable pub text_of_plan : Plan → List ℕ
text_of_plan plan =
    type_list_lines plan.types
    ++ entities_text plan.translation
    ++ names_text plan.translation
    ++ tables_text plan.translation
    ++ memories_text plan.translation
    ++ sizes_text plan

-- each name has a text in the pool, and each index space holds what is imported into it
pub record IsPrintable (t : ModuleTranslation) : Type 0 where
  pub counts : HoldsImports (record_of t.module)
  pub imports : All (HasNames t.module.strings) t.module.initializers.items
  pub exports : All (λ export. IsInPool t.module.strings export.0) t.module.exports.entries
  pub name : HasName t.module.strings t.module.name
