-- The memories of a translated module, as the image rule requires them.
use Rattle.std.specs.Prelude.{◌≡◌, ◌++◌, ◌+◌, ◌%◌, ◌^◌, ◌<◌, IsSomeAnd, ℕ, List, length, map, drop, sum_by, slice_get, Option, None, Some}
use Rattle.std.specs.Global.{Vec}
use Rattle.memory_images.specs.declared.image.Image.{Image}
use Rattle.memory_images.specs.Images.{images_of as view_images}
use Rattle.memory_images.specs.Views.{image_memory}
use Rattle.wasm_types.specs.declared.tunables.Tunables.{Tunables}
use Rattle.wasm_module.specs.declared.module.Module.{Module}
use Rattle.replay_spec.specs.Data.{ActiveSegment}
use Rattle.replay_spec.specs.Plan.{MemoryPlan, planned_from}
use Rattle.replay_spec.specs.Images.{ImageOptions, ImageMemory, IsStatic, MemoryImage, AreImages, written_on, bytes_on, image_map, entries_of, image_bytes, PlansImages, IsMemoryPlan, IsTight}
use Rattle.init_plan.specs.declared.translation.ModuleTranslation.{ModuleTranslation}
use Rattle.init_plan.specs.Views.{initializers_of, passive_bytes, data_total, images_of, processed_of, bytes_of, IsSegmented, IsProcessed}

-- the defined memories
abbrev pub image_memories : Module → List ImageMemory
image_memories m = map image_memory (drop m.num_imported_memories m.memories)

abbrev pub image_options : Tunables → ℕ → ℕ → ImageOptions
image_options tunables page_size max_image = record { enabled = tunables.memory_init_cow; page = page_size; max_image = max_image }

-- memories begin as images exactly where the image rule holds; the alignment is then the size of
-- their pages, and otherwise there is none
pub record BeginsByRule (options : ImageOptions) (old new : ModuleTranslation) : Type 0 where
  pub segmented : IsSegmented new.module.memory_initialization → (IsStatic options old.module.num_imported_memories (image_memories old.module) (initializers_of old) → ⊥) × (new.data_align ≡ None)
  pub images : (IsSegmented new.module.memory_initialization → ⊥) → IsStatic options old.module.num_imported_memories (image_memories old.module) (initializers_of old) × (new.data_align ≡ Some options.page)

-- each image of a plan consists of complete pages within its memory, has the contents, and is tight
abbrev pub HasTightImages : ImageOptions → ℕ → List ImageMemory → List ActiveSegment → List (List ℕ) → MemoryPlan → Type 0
HasTightImages options imports memories active passive plan = (planned : PlansImages options imports memories active passive plan)
    → (m : ℕ) (memory : ImageMemory) (image : MemoryImage) → slice_get memories m ≡ Some memory
    → slice_get planned.images (imports + m) ≡ Some (Some image)
    → IsTight options memory (written_on active (imports + m)) (bytes_on (imports + m) active) image

-- a range that begins and ends at multiples of the page size
abbrev pub IsWholeRange : ℕ → ℕ × ℕ → Type 0
IsWholeRange page range = (range.0 % page ≡ 0) × (range.1 % page ≡ 0)

-- the runtime data of each image have such a range
abbrev pub HasWholeRanges : ℕ → List (Option (ℕ × ℕ)) → List (ℕ × ℕ) → Type 0
HasWholeRanges page images ranges = (m start index : ℕ) → slice_get images m ≡ Some (Some (start, index))
    → IsSomeAnd (slice_get ranges index) (IsWholeRange page)

-- ---- how many bytes the runtime data have

-- the size of the runtime data of a plan of memories, in bytes, satisfies a predicate; there is
-- such a plan, and all have the same runtime data
pub record HasRuntimeSize (options : ImageOptions) (imports : ℕ) (memories : List ImageMemory) (active : List ActiveSegment)
    (passive : List (List ℕ)) (P : ℕ → Type 0) : Type 0 where
  pub plan : MemoryPlan
  pub is_plan : IsMemoryPlan options imports memories active passive plan
  pub size : P (sum_by length plan.runtime)

-- the same of a plan of a translation's memories
abbrev pub WillHaveRuntimeSize : ImageOptions → ModuleTranslation → (ℕ → Type 0) → Type 0
WillHaveRuntimeSize options t P =
    HasRuntimeSize options t.module.num_imported_memories (image_memories t.module) (initializers_of t) (passive_bytes t) P

-- ---- the steps

-- images where the image rule holds, and none where it does not; the runtime data have fewer than
-- 2 ^ 32 bytes
abbrev pub AreSized : ImageOptions → ModuleTranslation → Option (Vec (Option Image)) → Type 0
AreSized options t None = (IsStatic options t.module.num_imported_memories (image_memories t.module) (initializers_of t) → ⊥) × (data_total t < 2 ^ 32)
AreSized options t (Some images) = IsStatic options t.module.num_imported_memories (image_memories t.module) (initializers_of t)
    × AreImages options.page (length t.module.memories) (initializers_of t) (view_images images.items)
    × (sum_by length (passive_bytes t) + sum_by length (image_bytes (view_images images.items)) < 2 ^ 32)

-- the memories begin as images of pages of this size, which are the next runtime data
pub record BeginsAsImages (page_size : ℕ) (images : List (Option MemoryImage)) (old new : ModuleTranslation) : Type 0 where
  pub in_map : images_of new.module.memory_initialization ≡ image_map (length old.runtime_data) images
  pub static : IsSegmented new.module.memory_initialization → ⊥
  pub in_list : processed_of new.memory_init ≡ entries_of 0 (image_map (length old.runtime_data) images)
  pub processed : IsProcessed new.memory_init
  pub runtime : map bytes_of new.runtime_data ≡ map bytes_of old.runtime_data ++ image_bytes images
  pub same : new ≡ record old {
    «module» = record old.module { memory_initialization = new.module.memory_initialization };
    runtime_data = new.runtime_data;
    memory_init = new.memory_init;
    data_align = Some page_size;
  }

-- segments remain to be written, from the next runtime data
pub record KeepsSegments (active : List ActiveSegment) (old new : ModuleTranslation) : Type 0 where
  pub in_list : processed_of new.memory_init ≡ planned_from (length old.runtime_data) active
  pub processed : IsProcessed new.memory_init
  pub runtime : map bytes_of new.runtime_data ≡ map bytes_of old.runtime_data ++ map (λ s. s.bytes) active
  pub same : new ≡ record old { runtime_data = new.runtime_data; memory_init = new.memory_init }

-- one of these two, by whether there are images
abbrev pub Begins : ℕ → Option (Vec (Option Image)) → List ActiveSegment → ModuleTranslation → ModuleTranslation → Type 0
Begins page_size None active old new = KeepsSegments active old new
Begins page_size (Some images) active old new = BeginsAsImages page_size (view_images images.items) old new
