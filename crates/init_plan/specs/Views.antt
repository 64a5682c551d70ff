-- A translation, as the plain values of the definitions.
use Rattle.std.specs.Prelude.{◌≡◌, ℕ, ◌+◌, nat_eq, false, List, [], ◌∷◌, length, map, drop, slice_get, sum_by, Option, None, Some}
use Rattle.std.specs.Option.{option_map}
use Rattle.std.specs.Map.{lookup}
use Rattle.std.specs.Borrow.{Bor}
use Rattle.entity_map.specs.Secondary.{value_at}
use Rattle.wasm_index.specs.declared.index.Index.{Index}
use Rattle.wasm_index.specs.declared.spaces.DataSpace.{DataSpace}
use Rattle.wasm_index.specs.declared.spaces.MemorySpace.{MemorySpace}
use Rattle.wasm_index.specs.declared.spaces.RuntimeDataSpace.{RuntimeDataSpace}
use Rattle.wasm_index.specs.declared.spaces.StaticModuleSpace.{StaticModuleSpace}
use Rattle.wasm_index.specs.Index.{number_of}
use Rattle.wasm_types.specs.Memories.{minimum_bytes}
use Rattle.wasm_convert.specs.Constants.{expression_of}
use Rattle.wasm_module.specs.Record.{record_of, empty_record}
use Rattle.replay_spec.specs.Data.{ActiveSegment}
use Rattle.memory_images.specs.Views.{active_segment_of}
use Rattle.replay_spec.specs.Plan.{PlannedOffset, Expr, Static, PlannedSegment, MemoryPlan}
use Rattle.wasm_module.specs.declared.module.Module.{Module}
use Rattle.wasm_module.specs.declared.memory_initialization.MemoryInitialization.{MemoryInitialization}
use Rattle.wasm_module.specs.declared.memory_initialization.MemoryInitialization.TheVariants as initialization
use Rattle.form_types.specs.Types.{TypesData}
use Rattle.init_plan.specs.declared.debug_info.BranchHint.{BranchHint}
use Rattle.init_plan.specs.declared.debug_info.DebugInfoData.{DebugInfoData}
use Rattle.init_plan.specs.declared.translation.ModuleTranslation.{ModuleTranslation}
use Rattle.init_plan.specs.declared.translation.RuntimeBytes.{RuntimeBytes}
use Rattle.init_plan.specs.declared.translation.RuntimeBytes.TheVariants as runtime
use Rattle.init_plan.specs.declared.translation.MemoryInit.{MemoryInit}
use Rattle.init_plan.specs.declared.translation.MemoryInit.TheVariants as init
use Rattle.init_plan.specs.declared.translation.MemorySegmentOffset.{MemorySegmentOffset}
use Rattle.init_plan.specs.declared.translation.MemorySegmentOffset.TheVariants as offset

-- ---- before the plan

abbrev pub unprocessed_of : MemoryInit → List ActiveSegment
unprocessed_of (init.Unprocessed segments) = map active_segment_of segments.items
unprocessed_of (init.Processed segments) = []

abbrev pub IsUnprocessed : MemoryInit → Type 0
IsUnprocessed (init.Unprocessed segments) = Unit {0}
IsUnprocessed (init.Processed segments) = ⊥

-- the segments are planned
abbrev pub IsProcessed : MemoryInit → Type 0
IsProcessed (init.Unprocessed segments) = ⊥
IsProcessed (init.Processed segments) = Unit {0}

-- the active data segments that are not planned yet
abbrev pub initializers_of : ModuleTranslation → List ActiveSegment
initializers_of t = unprocessed_of t.memory_init

-- the number of a passive segment, and its bytes
abbrev pub passive_segment_of : Index DataSpace × Bor (List ℕ) → ℕ × List ℕ
passive_segment_of p = (number_of p.0, p.1.now)

-- the passive data segments, in order
abbrev pub passive_data_of : ModuleTranslation → List (ℕ × List ℕ)
passive_data_of t = map passive_segment_of t.private_parts.passive_data.items

-- the types by ids, where they are set
abbrev pub types_of : ModuleTranslation → Option TypesData
types_of t = t.private_parts.types

-- the branch hints of each function that has an entry, by its index
abbrev pub hint_entries_of : ModuleTranslation → List (ℕ × List BranchHint)
hint_entries_of t = map (λ e. (number_of e.0, e.1.items)) t.private_parts.branch_hints.entries

-- the branch hints of a function
abbrev pub hints_of : ModuleTranslation → ℕ → Option (List BranchHint)
hints_of t function = option_map (λ hints. hints.items) (lookup (λ index. nat_eq function (number_of index)) t.private_parts.branch_hints.entries)

abbrev pub passive_bytes : ModuleTranslation → List (List ℕ)
passive_bytes t = map (λ p. p.1) (passive_data_of t)

-- the number of bytes of active and passive segments together
abbrev pub total_bytes : List ActiveSegment → List (ℕ × List ℕ) → ℕ
total_bytes active passive = sum_by length (map (λ s. s.bytes) active) + sum_by length (map (λ p. p.1) passive)

-- the number of bytes of the data segments together
abbrev pub data_total : ModuleTranslation → ℕ
data_total t = total_bytes (initializers_of t) (passive_data_of t)

-- the minimum sizes of the defined memories, in bytes
abbrev pub defined_sizes : Module → List ℕ
defined_sizes m = map minimum_bytes (drop m.num_imported_memories m.memories)

-- ---- after the plan

abbrev pub bytes_of : RuntimeBytes → List ℕ
bytes_of (runtime.Borrowed bytes) = bytes.now
bytes_of (runtime.Owned bytes) = bytes.items

abbrev pub planned_offset_of : MemorySegmentOffset → PlannedOffset
planned_offset_of (offset.Expr e) = Expr (expression_of e)
planned_offset_of (offset.Static place) = Static place

abbrev pub planned_segment_of : Index MemorySpace × MemorySegmentOffset × Index RuntimeDataSpace → PlannedSegment
planned_segment_of s = record { memory = number_of s.0; offset = planned_offset_of s.1; index = number_of s.2 }

abbrev pub processed_of : MemoryInit → List PlannedSegment
processed_of (init.Unprocessed segments) = []
processed_of (init.Processed segments) = map planned_segment_of segments.items

abbrev pub images_of : MemoryInitialization → List (Option (ℕ × ℕ))
images_of initialization.Segmented = []
images_of (initialization.Static images) = map (option_map (λ image. (image.0, number_of image.1))) images

-- a planned segment is an image
abbrev pub IsStatic : PlannedOffset → Type 0
IsStatic (Expr e) = ⊥
IsStatic (Static place) = Unit {0}

-- the memories of a translation, as a plan
abbrev pub memory_plan_of : ModuleTranslation → MemoryPlan
memory_plan_of t = record {
  sizes = defined_sizes t.module;
  images = images_of t.module.memory_initialization;
  segments = processed_of t.memory_init;
  runtime = map bytes_of t.runtime_data;
  passive = λ index. option_map number_of (value_at t.runtime_data_map index);
}

-- the ranges of runtime data, from and up to
abbrev pub ranges_of : Module → List (ℕ × ℕ)
ranges_of m = map (λ range. (range.start, range.end)) m.runtime_data

abbrev pub IsSegmented : MemoryInitialization → Type 0
IsSegmented initialization.Segmented = Unit {0}
IsSegmented (initialization.Static images) = ⊥

-- passive segments are found with their bytes: the first at an index of the runtime data, and each
-- other one at the index after that of the one before
abbrev pub FindsInOrder : List (List ℕ) → (ℕ → Option ℕ) → ℕ → List (ℕ × List ℕ) → Type 0
FindsInOrder runtime found index [] = Unit {0}
FindsInOrder runtime found index (p ∷ ps) = (found p.0 ≡ Some index) × (slice_get runtime index ≡ Some p.1) × FindsInOrder runtime found (index + 1) ps

-- ---- what is unchanged

-- the plan of memories writes only these parts of a translation: the initialisation of memories,
-- the ranges of runtime data, these data, the indices of passive segments among them, the segments,
-- and the alignment of images
abbrev pub OnlyMemoriesChange : ModuleTranslation → ModuleTranslation → Type 0
OnlyMemoriesChange old new = new ≡ record old {
  «module» = record old.module { memory_initialization = new.module.memory_initialization; runtime_data = new.module.runtime_data };
  runtime_data_map = new.runtime_data_map;
  runtime_data = new.runtime_data;
  memory_init = new.memory_init;
  data_align = new.data_align;
}

-- the same parts, and startup
abbrev pub OnlyMemoryInitChanges : ModuleTranslation → ModuleTranslation → Type 0
OnlyMemoryInitChanges old new = new ≡ record old {
  «module» = record old.module {
    memory_initialization = new.module.memory_initialization;
    runtime_data = new.module.runtime_data;
    startup = new.module.startup;
  };
  runtime_data_map = new.runtime_data_map;
  runtime_data = new.runtime_data;
  memory_init = new.memory_init;
  data_align = new.data_align;
}

-- all except the passive data
abbrev pub SameButPassive : ModuleTranslation → ModuleTranslation → Type 0
SameButPassive old new = new ≡ record old { private_parts = record old.private_parts { passive_data = new.private_parts.passive_data } }

-- all except the types by ids
abbrev pub SameButTypes : ModuleTranslation → ModuleTranslation → Type 0
SameButTypes old new = new ≡ record old { private_parts = record old.private_parts { types = new.private_parts.types } }

-- all except the hints
abbrev pub SameButHints : ModuleTranslation → ModuleTranslation → Type 0
SameButHints old new = new ≡ record old { private_parts = record old.private_parts { branch_hints = new.private_parts.branch_hints } }

-- all except the active data segments
abbrev pub SameButSegments : ModuleTranslation → ModuleTranslation → Type 0
SameButSegments old new = new ≡ record old { memory_init = new.memory_init }

-- no name, and no metadata of functions
pub record TellsNothing (d : DebugInfoData) : Type 0 where
  pub no_name : d.name_section.module_name ≡ None
  pub no_functions : d.name_section.func_names.entries ≡ []
  pub no_locals : d.name_section.locals_names.entries ≡ []
  pub no_code : d.wasm_file.code_section_offset ≡ 0
  pub no_imports : d.wasm_file.imported_func_count ≡ 0
  pub no_metadata : d.wasm_file.funcs.items ≡ []

-- the empty translation
pub record IsNewTranslation (module_index : Index StaticModuleSpace) (t : ModuleTranslation) : Type 0 where
  pub record_of_module : record_of t.module ≡ empty_record module_index
  pub no_bytes : t.wasm.now ≡ []
  pub at_the_beginning : t.wasm_module_offset ≡ 0
  pub no_bodies : t.function_body_inputs ≡ []
  pub no_signatures : t.exported_signatures.items ≡ []
  pub no_source : TellsNothing t.debuginfo
  pub all_read : t.has_unparsed_debuginfo ≡ false
  pub no_alignment : t.data_align ≡ None
  pub nothing_found : t.runtime_data_map ≡ record { default = None; items = [] }
  pub no_numbers : t.passive_elem_map ≡ record { default = None; items = [] }
  pub no_runtime : t.runtime_data ≡ []
  pub no_start : t.start_func ≡ None
  pub no_globals : t.global_initializers.items ≡ []
  pub no_passive_elements : t.passive_elements ≡ []
  pub no_initial_values : t.table_initialization.initial_values ≡ []
  pub no_elements : t.table_initialization.segments.items ≡ []
  pub unprocessed : IsUnprocessed t.memory_init
  pub no_segments : initializers_of t ≡ []
  pub no_passive : passive_data_of t ≡ []
  pub no_types : types_of t ≡ None
  pub no_hints : hint_entries_of t ≡ []
