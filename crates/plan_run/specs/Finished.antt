-- When a translation can be run. Expressions need not be typed: one that has no value is null, or
-- the position 0.
use Rattle.std.specs.Prelude.{◌≡◌, ◌⊎◌, ℕ, ◌-◌, ◌<◌, ◌≤◌, length, All, Some, slice_get}
use Rattle.wasm_index.specs.Index.{number_of}
use Rattle.wasm_types.specs.declared.memory.Memory.{Memory}
use Rattle.wasm_types.specs.Memories.{minimum_bytes}
use Rattle.replay_spec.specs.Plan.{runtime_bytes}
use Rattle.init_plan.specs.declared.translation.ModuleTranslation.{ModuleTranslation}
use Rattle.init_plan.specs.Views.{IsProcessed, IsStatic, memory_plan_of}
use Rattle.init_plan.specs.Tables.{plan_of_tables, AreCounted}
use Rattle.plan_run.specs.Limits.{page_size_of}
use Rattle.plan_run.specs.Memories.{ImageIsWithin}

-- an image is of a defined memory, is within its minimum size, and is complete pages; no segment
-- then remains to be written
pub record ImageFits (t : ModuleTranslation) (i : ℕ) (image : ℕ × ℕ) : Type 0 where
  pub defined : t.module.num_imported_memories ≤ i
  pub within : (memory : Memory) → slice_get t.module.memories i ≡ Some memory
      → ImageIsWithin (page_size_of t) (minimum_bytes memory) (Some (image.0, runtime_bytes (memory_plan_of t) image.1))
  pub alone : All (λ s. IsStatic s.offset) (memory_plan_of t).segments

abbrev pub ImagesFit : ModuleTranslation → Type 0
ImagesFit t = (i : ℕ) (image : ℕ × ℕ) → slice_get (memory_plan_of t).images i ≡ Some (Some image) → ImageFits t i image

-- imports are within the globals, and the first values are of defined ones
pub record GlobalsAreFinished (t : ModuleTranslation) : Type 0 where
  pub imports : t.module.num_imported_globals ≤ length t.module.globals
  pub simple : All (λ g. number_of g.0 < length t.module.globals - t.module.num_imported_globals) t.module.global_initializers.items
  pub kept : All (λ g. number_of g.0 < length t.module.globals - t.module.num_imported_globals) t.global_initializers.items

-- the segments are planned, each for a memory that there is; imports are within the memories, a
-- page of which is 1 or 65536 bytes
pub record MemoriesAreFinished (t : ModuleTranslation) : Type 0 where
  pub processed : IsProcessed t.memory_init
  pub imports : t.module.num_imported_memories ≤ length t.module.memories
  pub page_sizes : All (λ memory. (memory.page_size_log2 ≡ 0) ⊎ (memory.page_size_log2 ≡ 16)) t.module.memories
  pub page : 0 < page_size_of t
  pub segments : All (λ s. s.memory < length t.module.memories) (memory_plan_of t).segments
  pub images : ImagesFit t

-- imports are within the tables; each defined one has an initial value and an image that is not
-- longer than its minimum; each segment is for a table that there is
pub record TablesAreFinished (t : ModuleTranslation) : Type 0 where
  pub imports : t.module.num_imported_tables ≤ length t.module.tables
  pub counted : AreCounted t
  pub images : All (λ table. length table.image ≤ table.minimum) (plan_of_tables t).tables
  pub elements : All (λ s. s.table < length t.module.tables) (plan_of_tables t).segments

pub record Finished (t : ModuleTranslation) : Type 0 where
  pub globals : GlobalsAreFinished t
  pub memories : MemoriesAreFinished t
  pub tables : TablesAreFinished t
