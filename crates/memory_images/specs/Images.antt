-- The images of memories, and how large they are.
use Rattle.std.specs.Prelude.{◌≡◌, ℕ, List, map, length, slice_get, Option, Some, None}
use Rattle.std.specs.Option.{option_map}
use Rattle.memory_images.specs.declared.span.PageSpan.{PageSpan}
use Rattle.memory_images.specs.declared.image.Image.{Image}
use Rattle.replay_spec.specs.Images.{MemoryImage}

abbrev pub image_of : Image → MemoryImage
image_of image = record { start = image.start; bytes = image.bytes.items }

abbrev pub images_of : List (Option Image) → List (Option MemoryImage)
images_of images = map (option_map image_of) images

abbrev pub span_size : Option PageSpan → ℕ
span_size None = 0
span_size (Some span) = span.size

-- n answers, each of which is right for its number
pub record AreListed {A : Type 0} (R : ℕ → A → Type 0) (n : ℕ) (answers : List A) : Type 0 where
  pub count : length answers ≡ n
  pub each : (m : ℕ) (answer : A) → slice_get answers m ≡ Some answer → R m answer
