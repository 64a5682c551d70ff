-- What the tables say of how memories begin.
use Rattle.std.specs.Prelude.{◌≡◌, ℕ, List, [], ◌∷◌, map, Option, Some, None}
use Rattle.std.specs.declared.ops.Range.{Range}
use Rattle.std.specs.List.{flat_map}
use Rattle.entity_map.specs.Keyed.{keyed}
use Rattle.wasm_index.specs.declared.index.Index.{Index}
use Rattle.wasm_index.specs.declared.spaces.DataSpace.{DataSpace}
use Rattle.wasm_index.specs.declared.spaces.MemorySpace.{MemorySpace}
use Rattle.wasm_index.specs.declared.spaces.RuntimeDataSpace.{RuntimeDataSpace}
use Rattle.wasm_index.specs.Index.{number_of, index_of}
use Rattle.wasm_module.specs.declared.memory_initialization.MemoryInitialization.{MemoryInitialization}
use Rattle.wasm_module.specs.declared.memory_initialization.MemoryInitialization.TheVariants as initialization
use Rattle.init_plan.specs.declared.translation.ModuleTranslation.{ModuleTranslation}
use Rattle.init_plan.specs.declared.translation.RuntimeBytes.{RuntimeBytes}
use Rattle.init_plan.specs.declared.translation.RuntimeBytes.TheVariants as runtime
use Rattle.plan_tables.specs.declared.record.MemoriesRecord.{MemoriesRecord}
use Rattle.plan_tables.specs.declared.record.RuntimeRow.{RuntimeRow}
use Rattle.plan_tables.specs.declared.rows.ImageRow.{ImageRow}
use Rattle.plan_tables.specs.declared.rows.NumberRange.{NumberRange}
use Rattle.plan_tables.specs.declared.rows.PassiveRow.{PassiveRow}
use Rattle.plan_tables.specs.Segments.{segment_row, planned_of}

abbrev pub data_range : Range ℕ → NumberRange
data_range range = record { begin = range.start; end = range.end }

-- the image of a memory that has one
abbrev pub image_row : Index MemorySpace → Option (ℕ × Index RuntimeDataSpace) → List ImageRow
image_row memory None = []
image_row memory (Some image) = record { memory = number_of memory; runtime = number_of image.1; offset = image.0 } ∷ []

abbrev pub image_rows : MemoryInitialization → List ImageRow
image_rows initialization.Segmented = []
image_rows (initialization.Static images) = flat_map (λ p. image_row p.0 p.1) (keyed index_of images)

-- a passive segment that keeps its bytes
abbrev pub passive_row : Index DataSpace → Option (Index RuntimeDataSpace) → List PassiveRow
passive_row segment None = []
passive_row segment (Some index) = record { segment = number_of segment; runtime = number_of index } ∷ []

-- whether the bytes were made by the plan, and the bytes
abbrev pub runtime_row : RuntimeBytes → ℕ × List ℕ
runtime_row (runtime.Borrowed bytes) = (0, bytes.now)
runtime_row (runtime.Owned bytes) = (1, bytes.items)

abbrev pub runtime_told : RuntimeRow → ℕ × List ℕ
runtime_told row = (row.made, row.bytes.now)

pub record TellsMemories (t : ModuleTranslation) (r : MemoriesRecord) : Type 0 where
  -- the bytes of each runtime data, and which of them the plan made
  pub runtime : map runtime_told r.runtime.now ≡ map runtime_row t.runtime_data
  pub ranges : r.runtime_ranges.now ≡ map data_range t.module.runtime_data
  -- the images, by the runtime data that hold them
  pub images : r.images.now ≡ image_rows t.module.memory_initialization
  -- what remains to be written, in order
  pub segments : r.segments.now ≡ map segment_row (planned_of t.memory_init)
  pub passive : r.passive.now ≡ flat_map (λ p. passive_row p.0 p.1) (keyed index_of t.runtime_data_map.items)
