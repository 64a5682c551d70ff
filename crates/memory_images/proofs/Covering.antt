-- The last piece that covers an offset, and the byte there.
use Rattle.std.proofs.Common.{◌≡◌, ℕ, suc, ◌+◌, ◌-◌, ◌<◌, ◌≤◌, Bool, true, false, List, [], ◌∷◌, map, get_or, Option, Some, None, ◌⊎◌, refl, ◌∙◌, ap, arith}
use Rattle.std.specs.Prelude.{slice_get, unwrap_or}
use Rattle.std.proofs.lemmas.Bool.{le-leb}
use Rattle.std.proofs.lemmas.Bool.Decides.{nat_tests}
use Rattle.std.proofs.lemmas.Option.{slice_get-get_or, slice_get_past}
use Rattle.memory_images.specs.Ranges.{is_within, later_or, last_cover_from}
use Rattle.memory_images.specs.declared.placed_segment.PlacedSegment.{PlacedSegment}
use Rattle.replay_spec.specs.Phases.{item_at, last_item}
use Rattle.memory_images.specs.Contents.{piece_of, contents_of, end_of, pair_of}

-- piece number s covers an offset, where its byte is b
pub record Covering (laid : List PlacedSegment) (s place b : ℕ) : Type 0 where
  pub part : PlacedSegment
  pub is_part : slice_get laid s ≡ Some part
  pub from : part.start ≤ place
  pub upto : place < end_of part
  pub byte : b ≡ get_or part.bytes.now (place - part.start) 0

-- the byte at an offset, where the first piece has number n and the byte d was there before
record Numbered (n d place : ℕ) (laid : List PlacedSegment) (s : ℕ) : Type 0 where
  number : ℕ
  is : s ≡ n + number
  covering : Covering laid number place (last_item 0 place d (map piece_of laid))

abbrev Told : ℕ → ℕ → ℕ → List PlacedSegment → Option ℕ → Type 0
Told n d place laid None = last_item 0 place d (map piece_of laid) ≡ d
Told n d place laid (Some s) = Numbered n d place laid s

pub within_yes : (start end place : ℕ) → start ≤ place → place < end → is_within start end place ≡ true
within_yes start end place h l = grind (arith, nat_tests)

pub within_low : (start end place : ℕ) → place < start → is_within start end place ≡ false
within_low start end place h = grind (arith, nat_tests)

pub within_high : (start end place : ℕ) → end ≤ place → is_within start end place ≡ false
within_high start end place h = grind (arith, nat_tests)

pub within_is : (start end place : ℕ) → is_within start end place ≡ true → (start ≤ place) × (place < end)
within_is start end place h = (grind (arith, nat_tests), grind (arith, nat_tests))

not_within : (start end place : ℕ) → is_within start end place ≡ false → (place < start) ⊎ (end ≤ place)
not_within start end place h = grind (arith, nat_tests)

-- the byte that a piece gives at an offset
pub covers : (x : PlacedSegment) (place : ℕ) → x.start ≤ place → place < end_of x → item_at 0 place (piece_of x) ≡ Some (get_or x.bytes.now (place - x.start) 0)
covers x place h l = rw (le-leb x.start place h) (slice_get-get_or x.bytes.now (place - x.start) 0 (omega arith))

pub misses : (x : PlacedSegment) (place : ℕ) → (place < x.start) ⊎ (end_of x ≤ place) → item_at 0 place (piece_of x) ≡ None
misses x place o = grind (arith, nat_tests, le-leb, slice_get_past)

told : (n d place : ℕ) (laid : List PlacedSegment) → Told n d place laid (last_cover_from n place (map pair_of laid))
told n d place [] = refl
told n d place (x ∷ xs) = over (last_cover_from (suc n) place (map pair_of xs)) (is_within x.start (end_of x) place) refl (told (suc n) (unwrap_or (item_at 0 place (piece_of x)) d) place xs) where
  over : (o : Option ℕ) (b : Bool) → is_within x.start (end_of x) place ≡ b → Told (suc n) (unwrap_or (item_at 0 place (piece_of x)) d) place xs o → Told n d place (x ∷ xs) (later_or o b n)
  over (Some s) b is t =
      let c = t.covering in
      record {
        number = suc t.number;
        is = let k = t.is in omega arith;
        covering = record { part = c.part; is_part = c.is_part; from = c.from; upto = c.upto; byte = c.byte };
      }
  over None true is t = grind (arith, within_is, covers)
  over None false is t = t ∙ ap (λ (o : Option ℕ). unwrap_or o d) (misses x place (not_within x.start (end_of x) place is))

-- the byte at an offset is the byte of the last piece that covers it
pub covered : (laid : List PlacedSegment) (place s : ℕ) → last_cover_from 0 place (map pair_of laid) ≡ Some s → Covering laid s place (contents_of laid place)
covered laid place s e = grind (arith, told 0 0 place laid)

pub uncovered : (laid : List PlacedSegment) (place : ℕ) → last_cover_from 0 place (map pair_of laid) ≡ None → contents_of laid place ≡ 0
uncovered laid place e = grind (arith, told 0 0 place laid)
