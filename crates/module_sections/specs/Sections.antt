-- What the sections of a module become in its translation, before its memories and tables are
-- planned: each field is a list of the module (core specification, 2.5).
use Rattle.std.specs.Prelude.{◌≡◌, ◌≤◌, ℕ, Bool, [], length, map, drop, slice_get, All, IfSome, None, unwrap_or}
use Rattle.std.specs.List.{list_any}
use Rattle.std.specs.Option.{option_map}
use Rattle.entity_map.specs.Secondary.{value_at}
use Rattle.wasm_spec.specs.Module.{function_import, table_import, memory_import, global_import, tag_import}
use Rattle.wasm_spec.specs.Module as plain
use Rattle.rule_spec.specs.Lists.{lists_of_module}
use Rattle.wasm_index.specs.Index.{number_of}
use Rattle.wasm_types.specs.Collected.{heap_is_collected}
use Rattle.wasm_types.specs.EntityViews.{global_of, table_of}
use Rattle.wasm_types.specs.Memories.{memory_of}
use Rattle.wasm_module.specs.declared.module.Module.{Module}
use Rattle.wasm_module.specs.Elements.{element_type, element_count}
use Rattle.replay_spec.specs.Held.{held_segments}
use Rattle.init_plan.specs.declared.translation.ModuleTranslation.{ModuleTranslation}
use Rattle.init_plan.specs.Views.{initializers_of, passive_data_of, IsUnprocessed, IsSegmented, ranges_of}
use Rattle.interned_types.specs.Types.{interned_at, look_up_in}
use Rattle.module_sections.specs.Entities.{count_of, imported_entities, exported_entities, resolved_import, resolved_export, function_types, tables_data, globals_data}
use Rattle.module_sections.specs.Escapes.{escaping, AreSignatures}
use Rattle.module_sections.specs.Pooled.{HasText, HasTexts}
use Rattle.init_plan.specs.Held.{simple_global_of}
use Rattle.module_sections.specs.Initialisers.{known_values, left_initialisers, view_initialiser, first_values, view_first_value, active_items, view_segment, passive_items, view_items, passive_numbers, passive_data_from}

-- each name of the record has its text in the pool
abbrev pub HasPooledNames : ModuleTranslation → Type 0
HasPooledNames t = record {
  imports : All (HasTexts t.module.strings) t.module.initializers.items;
  exports : All (λ e. HasText t.module.strings e.0) t.module.exports.entries;
  name : IfSome t.module.name (HasText t.module.strings);
}

-- imports, exports and what each index space holds; types by their interned indices
abbrev pub HasEntities : plain.Module → ModuleTranslation → Type 0
HasEntities m t = record {
  imports : map (resolved_import t.module.strings) t.module.initializers.items ≡ imported_entities m;
  exports : map (resolved_export t.module.strings) t.module.exports.entries ≡ exported_entities (lists_of_module m).exports;
  tables : map table_of t.module.tables ≡ tables_data m;
  memories : t.module.memories ≡ map memory_of (plain.memories m);
  globals : map global_of t.module.globals ≡ globals_data m;
  start : option_map number_of t.start_func ≡ slice_get (lists_of_module m).starts 0;
  pooled : HasPooledNames t;
}

-- how many entities of each space are imported
abbrev pub CountsImports : plain.Module → Module → Type 0
CountsImports m r = record {
  functions : r.num_imported_funcs ≡ count_of function_import (plain.imports m);
  tables : r.num_imported_tables ≡ count_of table_import (plain.imports m);
  memories : r.num_imported_memories ≡ count_of memory_import (plain.imports m);
  globals : r.num_imported_globals ≡ count_of global_import (plain.imports m);
  tags : r.num_imported_tags ≡ count_of tag_import (plain.imports m);
}

-- functions with their numbers among those that escape, and the types of these
abbrev pub Escapes : Bool → plain.Module → ModuleTranslation → Type 0
Escapes debugged m t = record {
  functions : t.module.functions ≡ function_types m (escaping debugged (lists_of_module m));
  count : t.module.num_escaped_funcs ≡ length (escaping debugged (lists_of_module m));
  below : t.module.num_escaped_funcs ≤ length t.module.functions;
  signatures : AreSignatures (escaping debugged (lists_of_module m)) (map (interned_at m) (plain.functions m)) (map number_of t.exported_signatures.items);
}

-- whether a table of the table section holds references that are collected
abbrev pub NeedsHeap : Module → Type 0
NeedsHeap r = r.needs_gc_heap ≡ list_any (λ table. heap_is_collected table.ref_type.heap_type) (drop r.num_imported_tables r.tables)

-- globals whose value is known, and the initialisers of the others
abbrev pub HasGlobals : plain.Module → ModuleTranslation → Type 0
HasGlobals m t = record {
  known : map simple_global_of t.module.global_initializers.items ≡ known_values (lists_of_module m).globals;
  left : map (view_initialiser (λ e. e)) t.global_initializers.items ≡ left_initialisers (look_up_in m) (lists_of_module m).globals;
}

-- first values of tables, and element segments: no table has an image yet
abbrev pub HasElements : plain.Module → ModuleTranslation → Type 0
HasElements m t = record {
  first : map view_first_value t.table_initialization.initial_values ≡ first_values (look_up_in m) (lists_of_module m).tables;
  active : map view_segment t.table_initialization.segments.items ≡ active_items (look_up_in m) (lists_of_module m).elements;
  no_images : map (λ image. image.items) t.module.table_initialization ≡ map (λ table. []) (lists_of_module m).tables;
  passive : map view_items t.passive_elements ≡ passive_items (look_up_in m) (lists_of_module m).elements;
  kinds : t.module.passive_elements ≡ map (λ items. (element_type items, element_count items)) t.passive_elements;
  numbers : (index : ℕ) → option_map number_of (value_at t.passive_elem_map index)
      ≡ unwrap_or (slice_get (passive_numbers 0 (lists_of_module m).elements) index) None;
}

-- data segments: nothing is planned yet
abbrev pub HasData : plain.Module → ModuleTranslation → Type 0
HasData m t = record {
  unprocessed : IsUnprocessed t.memory_init;
  active : initializers_of t ≡ held_segments m;
  passive : passive_data_of t ≡ passive_data_from 0 (plain.segments m);
  segmented : IsSegmented t.module.memory_initialization;
  no_ranges : ranges_of t.module ≡ [];
  no_runtime : t.runtime_data ≡ [];
  nothing_found : t.runtime_data_map ≡ record { default = None; items = [] };
  no_alignment : t.data_align ≡ None;
}

-- what each section becomes, except those of types, tags and code, and custom ones
abbrev pub HasSections : Bool → plain.Module → ModuleTranslation → Type 0
HasSections debugged m t = record {
  entities : HasEntities m t;
  counts : CountsImports m t.module;
  escapes : Escapes debugged m t;
  heap : NeedsHeap t.module;
  globals : HasGlobals m t;
  elements : HasElements m t;
  data_segments : HasData m t;
}
