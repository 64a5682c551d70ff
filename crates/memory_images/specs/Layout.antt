-- The bytes that segments write into each memory.
use Rattle.std.specs.Prelude.{◌≡◌, ◌≢◌, ◌+◌, ◌++◌, ℕ, List, [], ◌∷◌, map, length, nat_lt, if◌then◌else◌, slice_get, Some, All}
use Rattle.std.specs.Global.{Vec}
use Rattle.replay_spec.specs.Phases.{Piece}
use Rattle.replay_spec.specs.Data.{ActiveSegment}
use Rattle.replay_spec.specs.Images.{ImageOptions, ImageMemory, IsPlaced, bytes_on, start_of, MayBeImage}
use Rattle.memory_images.specs.declared.placed_segment.PlacedSegment.{PlacedSegment}
use Rattle.memory_images.specs.Contents.{pieces_in}

-- what a segment writes into its memory
abbrev pub laid_piece : ActiveSegment → Piece ℕ
laid_piece s = record { object = 0; offset = start_of s; items = s.bytes }

-- each memory, imported ones first, has its segments that are not empty, in order
pub record AreLaid (imports : ℕ) (memories : List ImageMemory) (active : List ActiveSegment) (all : List (Vec PlacedSegment)) : Type 0 where
  pub placed : All (IsPlaced imports memories) active
  pub count : length all ≡ imports + length memories
  pub each : (m : ℕ) → pieces_in (slice_get all m) ≡ map laid_piece (bytes_on m active)

-- bytes, unless there are none
abbrev pub unless_empty : PlacedSegment → List PlacedSegment
unless_empty x = if nat_lt 0 (length x.bytes.now) then x ∷ [] else []

-- x, unless it is empty, at the end of list number m
pub record AddsSegment (old new : List (Vec PlacedSegment)) (m : ℕ) (x : PlacedSegment) : Type 0 where
  pub count : length new ≡ length old
  pub here : (v w : Vec PlacedSegment) → slice_get old m ≡ Some v → slice_get new m ≡ Some w → w.items ≡ v.items ++ unless_empty x
  pub there : (k : ℕ) → k ≢ m → slice_get new k ≡ slice_get old k

-- the segments in each defined memory with bytes may be its image
abbrev pub MayBeImages : ImageOptions → ℕ → List ImageMemory → List ActiveSegment → Type 0
MayBeImages options imports memories active = (m : ℕ) (memory : ImageMemory) → slice_get memories m ≡ Some memory
    → bytes_on (imports + m) active ≢ [] → MayBeImage options memory (bytes_on (imports + m) active)
