-- The byte at each offset of a memory after pieces of bytes were written into it.
use Rattle.std.specs.Prelude.{◌≡◌, ℕ, ◌+◌, ◌-◌, ◌<◌, ◌≤◌, List, [], map, length, slice_get, slice_index, Option, Some, None}
use Rattle.std.specs.Global.{Vec}
use Rattle.memory_images.specs.declared.placed_segment.PlacedSegment.{PlacedSegment}
use Rattle.memory_images.specs.declared.written.Written.{Written}
use Rattle.replay_spec.specs.Phases.{Piece, last_item}

abbrev pub piece_of : PlacedSegment → Piece ℕ
piece_of x = record { object = 0; offset = x.start; items = x.bytes.now }

-- the byte at an offset of a memory of zeros into which the pieces were written in order
abbrev pub contents_of : List PlacedSegment → ℕ → ℕ
contents_of laid place = last_item 0 place 0 (map piece_of laid)

-- the pieces of a memory, if it is in the list
abbrev pub pieces_in : Option (Vec PlacedSegment) → List (Piece ℕ)
pieces_in None = []
pieces_in (Some laid) = map piece_of laid.items

-- the byte at an offset of memory number m
abbrev pub contents_at : List (Vec PlacedSegment) → ℕ → ℕ → ℕ
contents_at all m place = last_item 0 place 0 (pieces_in (slice_get all m))

abbrev pub end_of : PlacedSegment → ℕ
end_of x = x.start + length x.bytes.now

abbrev pub pair_of : PlacedSegment → ℕ × ℕ
pair_of x = (x.start, length x.bytes.now)

-- the byte of a piece at an offset
abbrev pub byte_in : PlacedSegment → ℕ → ℕ
byte_in x place = slice_index x.bytes.now (place - x.start)

abbrev pub Within : PlacedSegment → ℕ → Type 0
Within x place = (x.start ≤ place) × (place < end_of x)

-- a range is in the piece of its number, whose bytes are the final contents there
pub record IsInPiece (laid : List PlacedSegment) (range : Written) : Type 0 where
  pub part : PlacedSegment
  pub is_part : slice_get laid range.segment ≡ Some part
  pub low : part.start ≤ range.start
  pub high : range.end ≤ end_of part
  pub bytes : (place : ℕ) → range.start ≤ place → place < range.end → contents_of laid place ≡ byte_in part place

-- x has the contents over a range
pub record HasContentsOver (laid : List PlacedSegment) (range : Written) (x : PlacedSegment) : Type 0 where
  pub start : x.start ≡ range.start
  pub end : end_of x ≡ range.end
  pub bytes : (place : ℕ) → range.start ≤ place → place < range.end → contents_of laid place ≡ byte_in x place
