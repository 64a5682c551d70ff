-- Ranges that are found from low offsets to high ones.
use Rattle.std.specs.Prelude.{◌≡◌, ℕ, ◌+◌, ◌<◌, ◌≤◌, List, length, slice_index_or, max, Some, All, AllPairs, Contains}
use Rattle.std.specs.List.Sorted.{IsNonDecreasingBy}
use Rattle.memory_images.specs.Ranges.{last_cover, segment_at, IsBefore}
use Rattle.memory_images.specs.declared.written.Written.{Written}

abbrev pub start_of : List (ℕ × ℕ) → ℕ → ℕ
start_of segments k = (slice_index_or segments k (0, 0)).0

abbrev pub end_of : List (ℕ × ℕ) → ℕ → ℕ
end_of segments k = (slice_index_or segments k (0, 0)).0 + (slice_index_or segments k (0, 0)).1

-- ranges up to a limit, in order and none empty, in which each offset below it belongs to the last
-- pair that covers it
pub record AreWrittenBelow (segments : List (ℕ × ℕ)) (limit : ℕ) (ranges : List Written) : Type 0 where
  pub places : (place : ℕ) → place < limit → segment_at ranges place ≡ last_cover segments place
  pub below : All (λ w. w.end ≤ limit) ranges
  pub some : All (λ w. w.start < w.end) ranges
  pub ordered : AllPairs IsBefore ranges

-- if the old ranges are right below a start, and a segment has the offsets from there up to an end,
-- the new ranges are right below both
abbrev pub Extends : List Written → List Written → ℕ → ℕ → ℕ → Type 0
Extends old new start end segment = (segments : List (ℕ × ℕ)) → ((place : ℕ) → start ≤ place → place < end → last_cover segments place ≡ Some segment)
    → AreWrittenBelow segments start old → AreWrittenBelow segments (max start end) new

-- numbers of segments that start at an offset or below
abbrev pub AreBegun : List (ℕ × ℕ) → ℕ → List ℕ → Type 0
AreBegun segments at active = All (λ k. (k < length segments) × (start_of segments k ≤ at)) active

-- of the segments that start below a limit, those that reach past an offset are active
abbrev pub AreActive : List (ℕ × ℕ) → ℕ → ℕ → List ℕ → Type 0
AreActive segments at limit active = (k : ℕ) → k < length segments → start_of segments k < limit → at < end_of segments k → Contains active k

-- active segments that reach past an offset stay active
abbrev pub Keeps : List (ℕ × ℕ) → ℕ → List ℕ → List ℕ → Type 0
Keeps segments at old new = (k : ℕ) → Contains old k → at < end_of segments k → Contains new k

-- the start and the number of each segment, from low starts to high ones
pub record AreStarts (segments starts : List (ℕ × ℕ)) : Type 0 where
  pub each : (k : ℕ) → k < length segments → Contains starts (start_of segments k, k)
  pub numbers : All (λ s. (s.1 < length segments) × (s.0 ≡ start_of segments s.1)) starts
  pub rise : IsNonDecreasingBy (λ s. s.0) starts
