-- What filling a translation from the lists of a module needs, and what it makes.
use Rattle.std.specs.Prelude.{◌≡◌, ℕ, List, [], ◌++◌, map, All}
use Rattle.std.specs.List.{flat_map}
use Rattle.wasm_spec.specs.Module.{HasFewEntries}
use Rattle.wasm_spec.specs.Module as plain
use Rattle.rule_spec.specs.Lists.{lists_of_module}
use Rattle.rule_spec.specs.Lists as rule
use Rattle.rule_spec.specs.Rules.{Keeps}
use Rattle.form_rules.specs.Source.{source_module}
use Rattle.form_rules.specs.declared.lists.Lists.{Lists}
use Rattle.form_rules.specs.Views.{lists_of}
use Rattle.wasm_types.specs.EntityViews.{global_of, table_of}
use Rattle.wasm_types.specs.Memories.{memory_of}
use Rattle.wasm_module.specs.declared.module.Module.{Module}
use Rattle.replay_spec.specs.Held.{held_segments}
use Rattle.init_plan.specs.declared.translation.ModuleTranslation.{ModuleTranslation}
use Rattle.init_plan.specs.Views.{initializers_of, passive_data_of, IsUnprocessed}
use Rattle.module_sections.specs.EscapeLog.{EscapeLog, after_escapes}
use Rattle.module_sections.specs.Escapes.{referred, referred_if_any, item_functions}
use Rattle.module_sections.specs.Exported.{exported_functions}
use Rattle.form_rules.specs.Names.{imported_names, exported_names}
use Rattle.module_sections.specs.Pooled.{with_texts, HasText, HasTexts}
use Rattle.module_sections.specs.Entities.{imported_entities, exported_entities, resolved_import, resolved_export, tables_data, globals_data}
use Rattle.module_sections.specs.Initialisers.{passive_data_from}
use Rattle.module_sections.specs.Sections.{CountsImports, NeedsHeap, HasGlobals, HasElements}

-- the module whose lists these are
abbrev pub module_in : Lists → plain.Module
module_in l = source_module l.source

-- the lists are those of a module that keeps the rules and has few entries, except that the types
-- are removed: no later step reads them
pub record IsGathered (l : Lists) : Type 0 where
  pub lists : lists_of l ≡ record (lists_of_module (module_in l)) { types = [] }
  pub keeps : Keeps (module_in l)
  pub few : HasFewEntries (module_in l)

-- imports and all index spaces except those of functions and tags are filled in
pub record FillsEntities (m : plain.Module) (old new : Module) : Type 0 where
  pub imports : map (resolved_import new.strings) new.initializers.items ≡ imported_entities m
  pub pooled : All (HasTexts new.strings) new.initializers.items
  pub texts : new.strings ≡ with_texts (exported_names (lists_of_module m).exports) (imported_names m)
  pub counts : CountsImports m new
  pub tables : map table_of new.tables ≡ tables_data m
  pub memories : new.memories ≡ map memory_of (plain.memories m)
  pub globals : map global_of new.globals ≡ globals_data m
  pub heap : NeedsHeap new
  pub same : new ≡ record old {
    strings = new.strings;
    initializers = new.initializers;
    num_imported_funcs = new.num_imported_funcs;
    num_imported_tables = new.num_imported_tables;
    num_imported_memories = new.num_imported_memories;
    num_imported_globals = new.num_imported_globals;
    num_imported_tags = new.num_imported_tags;
    needs_gc_heap = new.needs_gc_heap;
    tables = new.tables;
    memories = new.memories;
    globals = new.globals;
  }

-- the references that initialisers, exports and segments make
abbrev pub references_of : rule.Lists → List ℕ
references_of l =
    flat_map (λ t. referred_if_any t.init) l.tables
    ++ flat_map (λ g. referred g.init) l.globals
    ++ exported_functions l.exports
    ++ flat_map (λ e. item_functions e.items) l.elements

-- exports, first values and segments are filled in, and their references recorded
pub record FillsInitialisers (m : plain.Module) (before after : EscapeLog) (old new : ModuleTranslation) : Type 0 where
  pub exports : map (resolved_export old.module.strings) new.module.exports.entries ≡ exported_entities (lists_of_module m).exports
  pub pooled : All (λ e. HasText old.module.strings e.0) new.module.exports.entries
  pub globals : HasGlobals m new
  pub elements : HasElements m new
  pub unprocessed : IsUnprocessed new.memory_init
  pub active : initializers_of new ≡ held_segments m
  pub passive : passive_data_of new ≡ passive_data_from 0 (plain.segments m)
  pub noted : after ≡ after_escapes before (references_of (lists_of_module m))
  pub same : new ≡ record old {
    «module» = record old.module {
      exports = new.module.exports;
      table_initialization = new.module.table_initialization;
      passive_elements = new.module.passive_elements;
      global_initializers = new.module.global_initializers;
    };
    passive_elem_map = new.passive_elem_map;
    global_initializers = new.global_initializers;
    passive_elements = new.passive_elements;
    table_initialization = new.table_initialization;
    memory_init = new.memory_init;
    private_parts = record old.private_parts { passive_data = new.private_parts.passive_data };
  }

-- what filling in the sections does not change in a translation
abbrev pub LeavesRest : ModuleTranslation → ModuleTranslation → Type 0
LeavesRest old new = record {
  index : new.module.module_index ≡ old.module.module_index;
  startup : new.module.startup ≡ old.module.startup;
  offset : new.wasm_module_offset ≡ old.wasm_module_offset;
}
