-- Small modules whose data segments become images, for the worked examples.
use Rattle.std.specs.Prelude.{pos, ℕ, List, [], ◌∷◌, true}
use Rattle.wasm_spec.specs.Module.{Module}
use Rattle.replay_spec.specs.Images.{ImageOptions, ImageMemory, image_memory_of, MemoryImage}
use Rattle.rule_spec.specs.WorkedKept.{one_page, segment_at, with_segments}

-- images of 4096 byte pages, where the bytes lie close together
abbrev pub images_wanted : ImageOptions
images_wanted = record { enabled = true; page = 4096; max_image = 0 }

-- the same, and images of any extent below a number
abbrev pub images_below : ℕ → ImageOptions
images_below most = record images_wanted { max_image = most }

abbrev pub one_memory : List ImageMemory
one_memory = image_memory_of one_page ∷ []

-- two zeros before a byte
abbrev pub leading_zeros : Module
leading_zeros = with_segments (segment_at (pos 0) (0 ∷ 0 ∷ 7 ∷ []) ∷ [])

abbrev pub zeros_alone : Module
zeros_alone = with_segments (segment_at (pos 0) (0 ∷ 0 ∷ []) ∷ [])

abbrev pub image_at : ℕ → List ℕ → MemoryImage
image_at start bytes = record { start = start; bytes = bytes }
