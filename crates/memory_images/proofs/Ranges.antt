-- The segment of a range, by the range's position in the list.
use Rattle.std.proofs.Common.{◌≡◌, ℕ, zero, suc, ◌<◌, ◌≤◌, Bool, true, false, List, [], ◌∷◌, AllPairs, Some, refl, arith}
use Rattle.std.specs.Prelude.{slice_get}
use Rattle.memory_images.specs.declared.written.Written.{Written}
use Rattle.memory_images.specs.Ranges.{is_within, segment_at, IsBefore}
use Rattle.memory_images.proofs.Covering.{within_yes, within_high, within_is}
use Rattle.memory_images.proofs.Lists.{two_some, pair_at}

pub pairs_behind : {X : Type 0} (R : X → X → Type 0) (x : X) (xs : List X) → AllPairs R (x ∷ xs) → AllPairs R xs
pairs_behind R x xs all = λ i j d lt k. all (suc i) (suc j) d (omega arith) (omega arith)

-- an offset in a range has the range's segment
pub segment_at-range : (ws : List Written) (k : ℕ) (w : Written) (place : ℕ) → AllPairs IsBefore ws → slice_get ws k ≡ Some w → w.start ≤ place → place < w.end → segment_at ws place ≡ Some w.segment
segment_at-range [] k w place all g h l = absurd cc
segment_at-range (v ∷ vs) zero w place all g h l = let same : v ≡ w = two_some (Some v) v w refl g in rw (same, within_yes w.start w.end place h l) refl
segment_at-range (v ∷ vs) (suc k) w place all g h l =
    grind (arith, pair_at IsBefore (v ∷ vs) 0 (suc k) v w all refl g (omega arith), pairs_behind IsBefore v vs all, within_high, (segment_at-range vs k w place (pairs_behind IsBefore v vs all) g h l))

-- the range that contains an offset
pub record RangeAt (ws : List Written) (place segment : ℕ) : Type 0 where
  pub index : ℕ
  pub range : Written
  pub is_range : slice_get ws index ≡ Some range
  pub from : range.start ≤ place
  pub upto : place < range.end
  pub owner : range.segment ≡ segment

pub range_at : (ws : List Written) (place s : ℕ) → segment_at ws place ≡ Some s → RangeAt ws place s
range_at [] place s e = absurd cc
range_at (w ∷ ws) place s e = by_test (is_within w.start w.end place) refl (range_at ws place s) where
  by_test : (b : Bool) → is_within w.start w.end place ≡ b → (segment_at ws place ≡ Some s → RangeAt ws place s) → RangeAt (w ∷ ws) place s
  by_test true is rest = let h = within_is w.start w.end place is in record { index = 0; range = w; is_range = refl; from = h.0; upto = h.1; owner = two_some (Some w.segment) w.segment s refl (rw is at e) }
  by_test false is rest = let r = rest (rw is at e) in record { index = suc r.index; range = r.range; is_range = r.is_range; from = r.from; upto = r.upto; owner = r.owner }
