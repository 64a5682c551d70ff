-- Bytes that are written over others, in order.
use Rattle.std.proofs.Common.{◌≡◌, ℕ, ◌+◌, ◌-◌, ◌<◌, ◌≤◌, List, [], ◌∷◌, ◌++◌, length, map, take, drop, get_or, min, max, refl, ◌∙◌, ap, arith, length-append, length-drop}
use Rattle.std.specs.Prelude.{unwrap_or}
use Rattle.std.specs.List.{refill}
use Rattle.std.proofs.lemmas.List.{drop-drop, length-take, get_or-take, get_or-drop, get_or_append_left, get_or-append_right, map_more}
use Rattle.entity_map.proofs.LentLemmas.{refill-same_length}
use Rattle.replay_spec.specs.Phases.{Piece, item_at, last_item}
use Rattle.memory_images.specs.declared.placed_segment.PlacedSegment.{PlacedSegment}
use Rattle.memory_images.specs.Contents.{piece_of, contents_of, end_of}
use Rattle.memory_images.proofs.Covering.{covers, misses}

last-push : (place d : ℕ) (ps : List (Piece ℕ)) (p : Piece ℕ) → last_item 0 place d (ps ++ p ∷ []) ≡ unwrap_or (item_at 0 place p) (last_item 0 place d ps)
last-push place d [] p = refl
last-push place d (q ∷ ps) p = last-push place (unwrap_or (item_at 0 place q) d) ps p

-- one more piece is written over the present bytes
pub contents_more : (laid : List PlacedSegment) (i place : ℕ) (d : PlacedSegment) → i < length laid
    → contents_of (take (i + 1) laid) place ≡ unwrap_or (item_at 0 place (piece_of (get_or laid i d))) (contents_of (take i laid) place)
contents_more laid i place d l = ap (last_item 0 place 0) (map_more piece_of laid i d l) ∙ last-push place 0 (map piece_of (take i laid)) (piece_of (get_or laid i d))

-- the bytes of a range are written into a buffer that begins at an offset
module _ (x : PlacedSegment) (start from to : ℕ) (old piece : List ℕ) (low : start ≤ from) (some : from < to) (begin : x.start ≤ from) (high : to ≤ end_of x) (fits : to ≤ start + length old)
    (piece_is : piece ≡ take (to - x.start - (from - x.start)) (drop (from - x.start) x.bytes.now)) where
  piece_len : length piece ≡ to - from
  piece_len = ap length piece_is ∙ length-take (to - x.start - (from - x.start)) (drop (from - x.start) x.bytes.now) ∙ (let d = length-drop (from - x.start) x.bytes.now in omega arith)

  byte_at : (i : ℕ) → i < length piece → get_or piece i 0 ≡ get_or x.bytes.now (from - x.start + i) 0
  byte_at i l = grind (arith, piece_len, get_or-take, get_or-drop)

  pub over : (new : List ℕ)
      → new ≡ refill (length old) old (take (from - start) old ++ (piece ++ drop (to - start - (from - start)) (drop (from - start) old)))
      → from ≡ max x.start start → to ≡ min (end_of x) (start + length old) → (i : ℕ) → i < length old → get_or new i 0 ≡ unwrap_or (item_at 0 (start + i) (piece_of x)) (get_or old i 0)
  over new is from_is to_is i l =
      grind (arith, piece_len, length-take, drop-drop, length-append, length-drop, refill-same_length, misses, get_or_append_left, get_or-take, get_or-append_right, covers, byte_at, get_or-drop)

-- a piece outside the range changes nothing
pub beside : (x : PlacedSegment) (start : ℕ) (old : List ℕ) → min (end_of x) (start + length old) ≤ max x.start start → (i : ℕ) → i < length old
    → get_or old i 0 ≡ unwrap_or (item_at 0 (start + i) (piece_of x)) (get_or old i 0)
beside x start old none i l = grind (arith, misses)
