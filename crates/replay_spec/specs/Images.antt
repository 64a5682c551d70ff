-- When the active data segments of a module become images of its memories, and which images these
-- are (core specification, 4.7, instantiation, says what the segments leave).
use Rattle.std.specs.Prelude.{◌≡◌, ◌≢◌, ℕ, ◌+◌, ◌-◌, ◌*◌, ◌/◌, ◌%◌, ◌^◌, ◌<◌, ◌≤◌, ◌⊎◌, ◌==◌, ◌&&◌, Bool, true, false, IsTrue, nat_lt, List, [], ◌∷◌, ◌++◌, length, map, sum_by, min, max, slice_index, slice_get, All, Option, None, Some}
use Rattle.std.specs.List.{filter}
use Rattle.wasm_spec.specs.declared.entities.MemoryType.{MemoryType}
use Rattle.wasm_spec.specs.Sizes.{page_log2}
use Rattle.replay_spec.specs.Phases.{last_item}
use Rattle.replay_spec.specs.Values.{Value, I32, I64, const_value, offset_of}
use Rattle.replay_spec.specs.Data.{ActiveSegment, piece_of}
use Rattle.replay_spec.specs.Plan.{PlannedSegment, Static, MemoryPlan, planned_from}

-- whether images are wanted, the size of their pages, and an extent below which an image is always made
pub record ImageOptions : Type 0 where
  pub enabled : Bool
  pub page : ℕ
  pub max_image : ℕ

-- a defined memory: whether its indices have 64 bits, its minimum size in pages, and its page size
-- as an exponent of 2
pub record ImageMemory : Type 0 where
  pub wide : Bool
  pub pages : ℕ
  pub page_log2 : ℕ

abbrev pub image_memory_of : MemoryType → ImageMemory
image_memory_of t = record { wide = t.memory64; pages = t.initial; page_log2 = page_log2 t }

-- the minimum size, in bytes
abbrev pub size_of : ImageMemory → ℕ
size_of memory = memory.pages * 2 ^ memory.page_log2

-- ---- the static image rule

-- the number in a value of a memory's index type
abbrev pub index_of : Bool → Value → Option ℕ
index_of false (I32 n) = Some n
index_of true (I64 n) = Some n
index_of _ _ = None

abbrev pub index_of_constant : Bool → Option Value → Option ℕ
index_of_constant wide None = None
index_of_constant wide (Some v) = index_of wide v

-- a segment is on a defined memory, its offset is a constant of the memory's index type, and it
-- ends within the memory's minimum size, which is a number of 64 bits
pub record IsPlaced (imports : ℕ) (memories : List ImageMemory) (s : ActiveSegment) : Type 0 where
  pub memory : ImageMemory
  pub place : ℕ
  pub defined : imports ≤ s.memory
  pub is_memory : slice_get memories (s.memory - imports) ≡ Some memory
  pub constant : index_of_constant memory.wide (const_value s.offset) ≡ Some place
  pub within : place + length s.bytes ≤ size_of memory
  pub known : size_of memory ≤ 2 ^ 64 - 1

-- the segments on a memory that are not empty
abbrev pub bytes_on : ℕ → List ActiveSegment → List ActiveSegment
bytes_on memory active = filter (λ s. s.memory == memory && nat_lt 0 (length s.bytes)) active

abbrev pub start_of : ActiveSegment → ℕ
start_of s = offset_of s.offset

abbrev pub end_of : ActiveSegment → ℕ
end_of s = start_of s + length s.bytes

abbrev pub least_start : List ActiveSegment → ℕ
least_start [] = 0
least_start (s ∷ []) = start_of s
least_start (s ∷ next ∷ ss) = min (start_of s) (least_start (next ∷ ss))

abbrev pub greatest_end : List ActiveSegment → ℕ
greatest_end [] = 0
greatest_end (s ∷ ss) = max (end_of s) (greatest_end ss)

-- from the least start to the greatest end
abbrev pub extent : List ActiveSegment → ℕ
extent ss = greatest_end ss - least_start ss

-- how many bytes segments hold; bytes that overlap count twice
abbrev pub data_size : List ActiveSegment → ℕ
data_size ss = sum_by (λ s. length s.bytes) ss

-- bytes lie close together, or the extent is small
abbrev pub IsDense : ℕ → List ActiveSegment → Type 0
IsDense max_image ss = (extent ss < 2 * data_size ss) ⊎ (extent ss < max_image)

-- the pages of an image are no larger than the memory's, and the image is not much larger than the bytes
pub record MayBeImage (options : ImageOptions) (memory : ImageMemory) (ss : List ActiveSegment) : Type 0 where
  pub page : options.page ≤ 2 ^ memory.page_log2
  pub dense : IsDense options.max_image ss

-- all active segments become images
pub record IsStatic (options : ImageOptions) (imports : ℕ) (memories : List ImageMemory) (active : List ActiveSegment) : Type 0 where
  pub enabled : IsTrue options.enabled
  pub placed : All (IsPlaced imports memories) active
  pub images : (m : ℕ) (memory : ImageMemory) → slice_get memories m ≡ Some memory → bytes_on (imports + m) active ≢ []
      → MayBeImage options memory (bytes_on (imports + m) active)

-- ---- the image of a memory

-- bytes that are in a memory from an offset on
pub record MemoryImage : Type 0 where
  pub start : ℕ
  pub bytes : List ℕ

-- what segments leave at an offset of a memory of zeros; their offsets are constants
abbrev pub written_on : List ActiveSegment → ℕ → ℕ → ℕ
written_on active memory place = last_item memory place 0 (map (piece_of offset_of) active)

pub record IsFirst (contents : ℕ → ℕ) (place : ℕ) : Type 0 where
  pub nonzero : contents place ≢ 0
  pub before : (q : ℕ) → q < place → contents q ≡ 0

pub record IsLast (contents : ℕ → ℕ) (place : ℕ) : Type 0 where
  pub nonzero : contents place ≢ 0
  pub behind : (q : ℕ) → place < q → contents q ≡ 0

-- an image spans from the page that holds the first byte that is not zero to the end of the page
-- that holds the last, and has the contents there
pub record IsImage (page : ℕ) (contents : ℕ → ℕ) (image : MemoryImage) : Type 0 where
  pub first : ℕ
  pub last : ℕ
  pub is_first : IsFirst contents first
  pub is_last : IsLast contents last
  pub start : image.start ≡ first / page * page
  pub end : image.start + length image.bytes ≡ (last / page + 1) * page
  pub bytes : (i : ℕ) → i < length image.bytes → slice_index image.bytes i ≡ contents (image.start + i)

-- there is no image where all is zero
abbrev pub ImageOf : ℕ → (ℕ → ℕ) → Option MemoryImage → Type 0
ImageOf page contents None = (place : ℕ) → contents place ≡ 0
ImageOf page contents (Some image) = IsImage page contents image

-- the images of a given number of memories, imported ones first
pub record AreImages (page memories : ℕ) (active : List ActiveSegment) (images : List (Option MemoryImage)) : Type 0 where
  pub count : length images ≡ memories
  pub each : (m : ℕ) (image : Option MemoryImage) → slice_get images m ≡ Some image → ImageOf page (written_on active m) image

-- ---- the plan

-- the map: each image's offset and its index among the runtime data
abbrev pub image_map : ℕ → List (Option MemoryImage) → List (Option (ℕ × ℕ))
image_map index [] = []
image_map index (None ∷ images) = None ∷ image_map index images
image_map index (Some image ∷ images) = Some (image.start, index) ∷ image_map (index + 1) images

-- the processed list of a map: an entry for each image, by memory
abbrev pub entries_of : ℕ → List (Option (ℕ × ℕ)) → List PlannedSegment
entries_of memory [] = []
entries_of memory (None ∷ images) = entries_of (memory + 1) images
entries_of memory (Some image ∷ images) =
    record { memory = memory; offset = Static image.0; index = image.1 } ∷ entries_of (memory + 1) images

-- the bytes of each image that there is, in the order of the memories
abbrev pub image_bytes : List (Option MemoryImage) → List (List ℕ)
image_bytes [] = []
image_bytes (None ∷ images) = image_bytes images
image_bytes (Some image ∷ images) = image.bytes ∷ image_bytes images

-- the rule holds, and the plan has the images alone: in its map, in its processed list, and first
-- of its runtime data
pub record PlansImages (options : ImageOptions) (imports : ℕ) (memories : List ImageMemory) (active : List ActiveSegment)
    (passive : List (List ℕ)) (plan : MemoryPlan) : Type 0 where
  pub static : IsStatic options imports memories active
  pub images : List (Option MemoryImage)
  pub are_images : AreImages options.page (imports + length memories) active images
  pub in_map : plan.images ≡ image_map 0 images
  pub in_list : plan.segments ≡ entries_of 0 plan.images
  pub runtime : plan.runtime ≡ image_bytes images ++ passive

-- the rule does not hold, and the plan keeps every segment to be written
pub record PlansSegments (options : ImageOptions) (imports : ℕ) (memories : List ImageMemory) (active : List ActiveSegment)
    (passive : List (List ℕ)) (plan : MemoryPlan) : Type 0 where
  pub not_static : IsStatic options imports memories active → ⊥
  pub in_map : plan.images ≡ []
  pub in_list : plan.segments ≡ planned_from 0 active
  pub runtime : plan.runtime ≡ map (λ s. s.bytes) active ++ passive

-- the plan of the active segments of a module with a given number of imported memories and these defined ones
pub record IsMemoryPlan (options : ImageOptions) (imports : ℕ) (memories : List ImageMemory) (active : List ActiveSegment)
    (passive : List (List ℕ)) (plan : MemoryPlan) : Type 0 where
  pub sizes : plan.sizes ≡ map size_of memories
  pub segments : PlansImages options imports memories active passive plan ⊎ PlansSegments options imports memories active passive plan

-- ---- how large an image is

-- every byte that is not zero is from low up to high
abbrev pub IsWithin : (ℕ → ℕ) → ℕ → ℕ → Type 0
IsWithin contents low high = (place : ℕ) → contents place ≢ 0 → (low ≤ place) × (place < high)

-- an image of these segments on a memory is whole pages within it, has the contents, is within any
-- run of whole pages that holds every byte that is not zero, and is at most two pages longer than
-- twice the bytes, or than what is always made
pub record IsTight (options : ImageOptions) (memory : ImageMemory) (contents : ℕ → ℕ) (ss : List ActiveSegment) (image : MemoryImage) : Type 0 where
  pub whole_start : image.start % options.page ≡ 0
  pub whole_pages : length image.bytes % options.page ≡ 0
  pub within : image.start + length image.bytes ≤ size_of memory
  pub contents_at : (place : ℕ) → image.start ≤ place → place < image.start + length image.bytes
      → slice_index image.bytes (place - image.start) ≡ contents place
  pub tight : (low high : ℕ) → IsWithin contents (low * options.page) (high * options.page)
      → (low * options.page ≤ image.start) × (image.start + length image.bytes ≤ high * options.page)
  pub short : length image.bytes < max (2 * data_size ss) options.max_image + 2 * options.page
