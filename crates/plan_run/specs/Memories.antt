-- Memories as a plan begins them, and what remains to be written.
use Rattle.std.specs.Prelude.{◌≡◌, ℕ, ◌+◌, ◌*◌, ◌/◌, ◌%◌, ◌≤◌, Bool, false, nat_le, nat_lt, ◌&&◌, slice_index_or, List, [], ◌∷◌, length, map, replicate, Option, Some, None, slice_get, unwrap_or}
use Rattle.std.specs.Option.{option_map}
use Rattle.wasm_spec.specs.Module.{Expression}
use Rattle.wasm_types.specs.declared.memory.Memory.{Memory}
use Rattle.wasm_types.specs.Memories.{minimum_bytes}
use Rattle.replay_spec.specs.Phases.{Phase, Piece}
use Rattle.replay_spec.specs.Plan.{MemoryPlan, PlannedOffset, Expr, Static, runtime_bytes, phase_by_map, phase_by_list}
use Rattle.paged_memory.specs.Memory.{Contents, page_count, as_lent}
use Rattle.paged_memory.specs.Writing.{written}
use Rattle.plan_run.specs.declared.laid.Way.{Way}
use Rattle.plan_run.specs.declared.laid.Way.TheVariants as way
use Rattle.plan_run.specs.declared.segments.DataPiece.{DataPiece}

abbrev pub bytes_in : List Contents → List (List ℕ)
bytes_in memories = map (λ memory. memory.bytes) memories

-- with images mapped, the plan is read by its map; with all written, by its list
abbrev pub plan_phase : Way → (Expression → ℕ) → List (List ℕ) → MemoryPlan → Phase ℕ
plan_phase way.Map place_of imported plan = phase_by_map place_of imported plan
plan_phase way.Copy place_of imported plan = phase_by_list place_of imported plan

-- ---- images

-- the offset and bytes of the image that a memory begins with
abbrev pub image_in : Way → MemoryPlan → ℕ → Option (ℕ × List ℕ)
image_in way.Map plan memory = option_map (λ image. (image.0, runtime_bytes plan image.1)) (unwrap_or (slice_get plan.images memory) None)
image_in way.Copy plan memory = None

-- an image is complete pages, and is within so many bytes
abbrev pub ImageIsWithin : ℕ → ℕ → Option (ℕ × List ℕ) → Type 0
ImageIsWithin page size None = Unit {0}
ImageIsWithin page size (Some image) = (image.0 % page ≡ 0) × (length image.1 % page ≡ 0) × (image.0 + length image.1 ≤ size)

-- zeros, and an image
abbrev pub first_bytes : ℕ → Option (ℕ × List ℕ) → List ℕ
first_bytes size None = replicate size 0
first_bytes size (Some image) = written image.0 image.1 (replicate size 0)

abbrev pub image_pages : ℕ → Option (ℕ × List ℕ) → ℕ
image_pages page None = 0
image_pages page (Some image) = length image.1 / page

-- of the pages that hold so many bytes, those of an image are borrowed
abbrev pub first_lent : ℕ → ℕ → Option (ℕ × List ℕ) → List Bool
first_lent page size None = replicate (page_count page size) false
first_lent page size (Some image) = as_lent (image.0 / page) (length image.1 / page) (replicate (page_count page size) false)

-- whether a page of so many bytes is one of an image: it begins in it
abbrev pub is_of_image : ℕ → Option (ℕ × List ℕ) → ℕ → Bool
is_of_image size None page = false
is_of_image size (Some image) page = nat_le image.0 (page * size) && nat_lt (page * size) (image.0 + length image.1)

-- whether a page of a memory is borrowed; one that the memory does not have is not
abbrev pub lends : Contents → ℕ → Bool
lends memory page = slice_index_or memory.lent page false

-- of a memory, its bytes, how many bytes a page has, and which of the pages are borrowed
abbrev pub seen : Contents → List ℕ × ℕ × List Bool
seen memory = (memory.bytes, memory.page, memory.lent)

-- the same of defined memories as they begin, of which the first has that number
abbrev pub begun : Way → MemoryPlan → ℕ → ℕ → List Memory → List (List ℕ × ℕ × List Bool)
begun w plan page n [] = []
begun w plan page n (m ∷ ms) =
    (first_bytes (minimum_bytes m) (image_in w plan n), page, first_lent page (minimum_bytes m) (image_in w plan n)) ∷ begun w plan page (n + 1) ms

-- the images of memories of which the first has that number
abbrev pub ImagesAreWithin : Way → MemoryPlan → ℕ → ℕ → List Memory → Type 0
ImagesAreWithin w plan page n [] = Unit {0}
ImagesAreWithin w plan page n (m ∷ ms) = ImageIsWithin page (minimum_bytes m) (image_in w plan n) × ImagesAreWithin w plan page (n + 1) ms

-- ---- what remains to be written

-- where a segment is written: one that is an image already is not
abbrev pub left_place : Way → (Expression → ℕ) → PlannedOffset → Option ℕ
left_place w place_of (Expr offset) = Some (place_of offset)
left_place way.Map place_of (Static place) = None
left_place way.Copy place_of (Static place) = Some place

abbrev pub data_piece : DataPiece → Piece ℕ
data_piece p = record { object = p.memory; offset = p.place; items = p.bytes.now }
