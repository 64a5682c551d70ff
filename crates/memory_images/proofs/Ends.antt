-- The first and the last byte that is not zero.
use Rattle.std.proofs.Common.{◌≡◌, ℕ, ◌+◌, ◌-◌, ◌%◌, ◌^◌, ◌<◌, ◌≤◌, List, length, map, min, Option, Some, None, ◌⊎◌, inl, inr, refl, sym, ◌∙◌, ap, arith}
use Rattle.std.specs.Prelude.{slice_get, unwrap_or, IfSome, ⊤}
use Rattle.std.proofs.Math.Nat.{mul-le-mul_right, div-mul-le_self}
use Rattle.std.proofs.lemmas.Nat.{le-div}
use Rattle.std.proofs.lemmas.Option.{slice_get_within}
use Rattle.replay_spec.specs.Phases.{item_at}
use Rattle.memory_images.specs.declared.placed_segment.PlacedSegment.{PlacedSegment}
use Rattle.memory_images.specs.declared.written.Written.{Written}
use Rattle.memory_images.specs.declared.span.Ends.{Ends}
use Rattle.memory_images.specs.declared.span.PageSpan.{PageSpan}
use Rattle.memory_images.specs.Contents.{contents_of, end_of, byte_in, pair_of, piece_of, IsInPiece, HasContentsOver, Within}
use Rattle.memory_images.specs.Image.{Bounds, EndsOf, joined, ArePages}
use Rattle.memory_images.specs.Ranges.{last_cover_from, AreWritten}
use Rattle.memory_images.proofs.Covering.{Covering, covered, uncovered, covers, misses}
use Rattle.memory_images.proofs.Lists.{two_some, all_at}
use Rattle.memory_images.proofs.Ranges.{segment_at-range, range_at}

abbrev pub IsIn : Written → ℕ → Type 0
IsIn range place = (range.start ≤ place) × (place < range.end)

-- ---- the ends of two

module _ (contents : ℕ → ℕ) (A B C : ℕ → Type 0) (split : (place : ℕ) → C place → A place ⊎ B place) where
  pub ends_joined : (a b : Option Ends) → EndsOf contents A a → EndsOf contents B b → EndsOf contents C (joined a b)
  ends_joined a b h k = grind arith

-- ---- all pieces

module _ (below above : ℕ → ℕ) (x : PlacedSegment) (over : (place : ℕ) → above place ≡ unwrap_or (item_at 0 place (piece_of x)) (below place)) where
  by_place : (place : ℕ) → (above place ≡ below place) ⊎ (Within x place × (above place ≡ byte_in x place))
  by_place place = grind (arith, misses, covers)

  pub bounds_joined : (a b : Option Ends) → Bounds below a → EndsOf (byte_in x) (Within x) b → Bounds above (joined a b)
  bounds_joined a b h k = grind (arith, by_place)

-- ---- all ranges

-- the ends of a piece cut to a range are the ends of the contents in that range
pub ends_cut : (laid : List PlacedSegment) (range : Written) (x : PlacedSegment) (ends : Option Ends) → HasContentsOver laid range x → EndsOf (byte_in x) (Within x) ends
    → IfSome ends (λ ends. Within x ends.first × Within x ends.last) → EndsOf (contents_of laid) (IsIn range) ends
ends_cut laid range x ends cut h within = grind arith

-- an offset is in one of the ranges
pub record LiesIn (ranges : List Written) (count place : ℕ) : Type 0 where
  pub index : ℕ
  pub range : Written
  pub is_range : slice_get ranges index ≡ Some range
  pub early : index < count
  pub within : IsIn range place

pub one_more : (ranges : List Written) (count : ℕ) (range : Written) → slice_get ranges count ≡ Some range → (place : ℕ) → LiesIn ranges (count + 1) place → LiesIn ranges count place ⊎ IsIn range place
one_more ranges count range at place i = grind (arith, two_some)

module _ (laid : List PlacedSegment) (ranges : List Written) (written : AreWritten (map pair_of laid) ranges) where
  covering : (k : ℕ) (w : Written) → slice_get ranges k ≡ Some w → (place : ℕ) → w.start ≤ place → place < w.end → Covering laid w.segment place (contents_of laid place)
  covering k w g place h l = covered laid place w.segment (sym (written.places place) ∙ segment_at-range ranges k w place written.ordered g h l)

  pub owned : (k : ℕ) (w : Written) → slice_get ranges k ≡ Some w → IsInPiece laid w
  owned k w g =
      let lt : w.start < w.end = all_at (λ (v : Written). v.start < v.end) ranges k w written.some g in
      let c = covering k w g w.start (omega arith) lt in
      let d = covering k w g (w.end - 1) (omega arith) (omega arith) in
      let same : d.part ≡ c.part = two_some (slice_get laid w.segment) d.part c.part d.is_part c.is_part in
      let e : end_of d.part ≡ end_of c.part = ap end_of same in
      grind (arith, covering k w g, two_some)

  -- outside all ranges every byte is zero
  zero_or_in : (place : ℕ) → (contents_of laid place ≡ 0) ⊎ LiesIn ranges (length ranges) place
  zero_or_in place = over (last_cover_from 0 place (map pair_of laid)) refl where
    over : (o : Option ℕ) → last_cover_from 0 place (map pair_of laid) ≡ o → (contents_of laid place ≡ 0) ⊎ LiesIn ranges (length ranges) place
    over None e = inl (uncovered laid place e)
    over (Some s) e =
        let r = range_at ranges place s (written.places place ∙ e) in
        inr (record { index = r.index; range = r.range; is_range = r.is_range; early = slice_get_within ranges r.index r.range r.is_range; within = (r.from, r.upto) })

  pub everywhere : (ends : Option Ends) → EndsOf (contents_of laid) (LiesIn ranges (length ranges)) ends → EndsOf (contents_of laid) (λ _. ⊤) ends
  everywhere ends h = grind (arith, zero_or_in)

-- ---- the pages around the ends

pub page_order : (first last page : ℕ) → 0 < page → first ≤ last → first - first % page ≤ last - last % page
page_order first last page pos order = grind (arith, div-mul-le_self, le-div, mul-le-mul_right)

pub pages : (ends : Ends) (page : ℕ) (span : PageSpan) → 0 < page → ends.first ≤ ends.last → span.start ≡ ends.first - ends.first % page
    → span.size ≡ min (ends.last - ends.last % page - (ends.first - ends.first % page) + page) (2 ^ 64 - 1) → ArePages page ends span
pages ends page span pos order start_is size_is = grind (arith, page_order)
