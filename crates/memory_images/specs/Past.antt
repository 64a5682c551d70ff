-- Where images and the bytes of passive segments pass 4294967295 bytes together.
use Rattle.std.specs.Prelude.{ℕ, ◌+◌, ◌^◌, ◌<◌, ◌≤◌, List, length, take, sum_by, Option}
use Rattle.replay_spec.specs.Data.{ActiveSegment}
use Rattle.replay_spec.specs.Images.{ImageOptions, ImageMemory, IsStatic, MemoryImage, AreImages, image_bytes}

-- with the image of this memory the images, and so many passive bytes, pass 4294967295 bytes; with
-- those before it they do not
pub record PassesAt (images : List (Option MemoryImage)) (passive memory : ℕ) : Type 0 where
  pub fits : passive + sum_by length (image_bytes (take memory images)) < 2 ^ 32
  pub passes : 2 ^ 32 ≤ passive + sum_by length (image_bytes (take (memory + 1) images))

-- all active segments become images, which pass there
pub record ImagesPassAt (options : ImageOptions) (imports : ℕ) (memories : List ImageMemory) (active : List ActiveSegment)
    (passive memory : ℕ) : Type 0 where
  pub static : IsStatic options imports memories active
  pub passes : (images : List (Option MemoryImage)) → AreImages options.page (imports + length memories) active images
      → PassesAt images passive memory
