-- Images as pieces: both readings of a plan write them, and they leave what the segments leave.
use Rattle.std.proofs.Common.{◌≡◌, ◌≢◌, ℕ, zero, suc, ◌+◌, ◌-◌, ◌<◌, List, [], ◌∷◌, ◌++◌, length, map, Option, None, Some, refl, arith}
use Rattle.std.specs.Prelude.{slice_get, unwrap_or}
use Rattle.std.specs.List.{filter_map}
use Rattle.std.proofs.Math.Logic.{⊎_elim}
use Rattle.std.proofs.Math.Nat.{div-mul-le_self}
use Rattle.std.proofs.lemmas.Bool.{cases_lt, eq-eqb, le-leb}
use Rattle.std.proofs.lemmas.List.{length_push}
use Rattle.std.proofs.lemmas.Option.{slice_get-get_or, none-some}
use Rattle.wasm_spec.specs.Module.{Expression}
use Rattle.replay_spec.specs.Phases.{Piece, item_at, last_item}
use Rattle.replay_spec.specs.Plan.{MemoryPlan, planned_piece, left_to_write, image_pieces}
use Rattle.replay_spec.specs.Images.{MemoryImage, IsImage, ImageOf, image_map, entries_of, image_bytes}
use Rattle.replay_spec.proofs.Covering.{CoversAt, item-cover}
use Rattle.replay_spec.proofs.Kept.{bytes-at, next-runtime}

abbrev pub image_piece : ℕ → MemoryImage → Piece ℕ
image_piece memory image = record { object = memory; offset = image.start; items = image.bytes }

abbrev pub pieces_from : ℕ → List (Option MemoryImage) → List (Piece ℕ)
pieces_from memory [] = []
pieces_from memory (None ∷ images) = pieces_from (memory + 1) images
pieces_from memory (Some image ∷ images) = image_piece memory image ∷ pieces_from (memory + 1) images

-- ---- what a plan writes

module _ (plan : MemoryPlan) where
  pub map-pieces : (images : List (Option MemoryImage)) (before after : List (List ℕ)) (m n : ℕ) → n ≡ length before
      → plan.runtime ≡ before ++ (image_bytes images ++ after) → image_pieces plan m (image_map n images) ≡ pieces_from m images
  map-pieces [] before after m n at is = refl
  map-pieces (None ∷ images) before after m n at is = map-pieces images before after (m + 1) n at is
  map-pieces (Some image ∷ images) before after m n at is = grind (arith, bytes-at, length_push, next-runtime, (map-pieces images (before ++ image.bytes ∷ []) after (m + 1) (n + 1) (omega (arith, length_push before image.bytes)) (next-runtime plan before (image_bytes images ++ after) image.bytes is)))

  -- the processed list of a map writes its images
  pub entry-pieces : (place_of : Expression → ℕ) (images : List (Option (ℕ × ℕ))) (m : ℕ) → map (planned_piece place_of plan) (entries_of m images) ≡ image_pieces plan m images
  entry-pieces place_of [] m = refl
  entry-pieces place_of (None ∷ images) m = entry-pieces place_of images (m + 1)
  entry-pieces place_of (Some image ∷ images) m = grind (arith, (entry-pieces place_of images (m + 1)))

  pub none-left : (images : List (Option (ℕ × ℕ))) (m : ℕ) → filter_map (λ s. left_to_write plan s.offset s.memory s.index) (entries_of m images) ≡ []
  none-left [] m = refl
  none-left (None ∷ images) m = none-left images (m + 1)
  none-left (Some image ∷ images) m = none-left images (m + 1)

-- ---- what images leave

item-elsewhere : {A : Type 0} (object place : ℕ) (p : Piece A) → p.object ≢ object → item_at object place p ≡ None
item-elsewhere object place p ne = ⊎_elim (λ e. e) (λ (c : CoversAt object place p). absurd (ne c.on)) (item-cover object place p)

pub last-below : (images : List (Option MemoryImage)) (n object place d : ℕ) → object < n → last_item object place d (pieces_from n images) ≡ d
last-below [] n object place d lt = refl
last-below (None ∷ images) n object place d lt = last-below images (n + 1) object place d (omega arith)
last-below (Some image ∷ images) n object place d lt = grind (arith, item-elsewhere, (last-below images (n + 1) object place d (omega arith)))

-- what an image leaves at an offset that held d
abbrev pub laid_over : Option MemoryImage → ℕ → ℕ → ℕ → ℕ
laid_over None object place d = d
laid_over (Some image) object place d = unwrap_or (item_at object place (image_piece object image)) d

pub last-image : (images : List (Option MemoryImage)) (n j object place d : ℕ) (image : Option MemoryImage) → n + j ≡ object
    → slice_get images j ≡ Some image → last_item object place d (pieces_from n images) ≡ laid_over image object place d
last-image [] n j object place d image is at = absurd (none-some image at)
last-image (None ∷ images) n zero object place d None is at = last-below images (n + 1) object place d (omega arith)
last-image (None ∷ images) n zero object place d (Some image) is at = grind (arith, none-some)
last-image (Some one ∷ images) n zero object place d None is at = grind (arith, none-some)
last-image (Some one ∷ images) n zero object place d (Some image) is at = grind (arith, last-below)
last-image (None ∷ images) n (suc j) object place d image is at = last-image images (n + 1) j object place d image (omega arith) at
last-image (Some one ∷ images) n (suc j) object place d image is at = grind (arith, item-elsewhere, (last-image images (n + 1) j object place d image (omega arith) at))

-- ---- an image over zeros leaves the contents

module _ (page : ℕ) (positive : 0 < page) (contents : ℕ → ℕ) where
  item-image : (object place : ℕ) (image : MemoryImage) → IsImage page contents image
      → unwrap_or (item_at object place (image_piece object image)) 0 ≡ contents place
  item-image object place image i = grind (arith, (item-cover object place (image_piece object image)), (div-mul-le_self i.first page), (eq-eqb object object), (le-leb image.start place), (slice_get-get_or image.bytes (place - image.start) 0), (cases_lt place (image.start + length image.bytes)), (cases_lt place image.start))

  pub laid-over : (object place : ℕ) (image : Option MemoryImage) → ImageOf page contents image → laid_over image object place 0 ≡ contents place
  laid-over object place image h1 = grind (arith, item-image)
