-- Which of several segments an offset belongs to.
use Rattle.std.specs.Prelude.{◌≡◌, ◌≢◌, ℕ, suc, ◌+◌, ◌<◌, ◌≤◌, All, AllPairs, Bool, nat_le, nat_lt, ◌&&◌, List, [], ◌∷◌, Option, Some, None, if◌then◌else◌}
use Rattle.memory_images.specs.declared.written.Written.{Written}

-- whether an offset is in the range from a start up to an end
abbrev pub is_within : ℕ → ℕ → ℕ → Bool
is_within start end place = nat_le start place && nat_lt place end

-- the answer of the later pairs, or else n where this pair covers the offset
abbrev pub later_or : Option ℕ → Bool → ℕ → Option ℕ
later_or (Some s) here n = Some s
later_or None here n = if here then Some n else None

-- the number of the last pair of start and length that covers an offset, where the first has number
-- n
abbrev pub last_cover_from : ℕ → ℕ → List (ℕ × ℕ) → Option ℕ
last_cover_from n place [] = None
last_cover_from n place (p ∷ ps) = later_or (last_cover_from (suc n) place ps) (is_within p.0 (p.0 + p.1) place) n

-- the number of the last pair that covers an offset
abbrev pub last_cover : List (ℕ × ℕ) → ℕ → Option ℕ
last_cover segments place = last_cover_from 0 place segments

-- the segment of the range that contains an offset
abbrev pub segment_at : List Written → ℕ → Option ℕ
segment_at [] place = None
segment_at (w ∷ ws) place = if is_within w.start w.end place then Some w.segment else segment_at ws place

-- one range is before another: they do not overlap, and where they touch their segments differ
pub record IsBefore (a b : Written) : Type 0 where
  pub apart : a.end ≤ b.start
  pub differ : a.end ≡ b.start → a.segment ≢ b.segment

-- ranges, in order and none empty, in which each offset belongs to the last pair of start and
-- length that covers it
pub record AreWritten (segments : List (ℕ × ℕ)) (ranges : List Written) : Type 0 where
  pub places : (place : ℕ) → segment_at ranges place ≡ last_cover segments place
  pub some : All (λ w. w.start < w.end) ranges
  pub ordered : AllPairs IsBefore ranges
