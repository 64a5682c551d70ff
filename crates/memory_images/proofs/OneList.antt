-- The ranges that segments write are uniquely determined.
use Rattle.std.proofs.Common.{◌≡◌, ℕ, suc, ◌<◌, List, [], ◌∷◌, All, AllPairs, Some, None, refl, sym, ◌∙◌, arith}
use Rattle.std.proofs.lemmas.List.Elements.{All-head, All-tail}
use Rattle.memory_images.specs.declared.written.Written.{Written}
use Rattle.memory_images.specs.Ranges.{segment_at, IsBefore, AreWritten}
use Rattle.memory_images.proofs.Lists.{none_some, two_some, pair_at}
use Rattle.memory_images.proofs.Covering.{within_yes, within_low, within_high}
use Rattle.memory_images.proofs.Ranges.{pairs_behind, range_at}

-- ranges, in order and none empty
record AreRanges (ws : List Written) : Type 0 where
  some : All (λ (w : Written). w.start < w.end) ws
  ordered : AllPairs IsBefore ws

ranges_behind : (w : Written) (ws : List Written) → AreRanges (w ∷ ws) → AreRanges ws
ranges_behind w ws h = record { some = All-tail (λ (v : Written). v.start < v.end) w ws h.some; ordered = pairs_behind IsBefore w ws h.ordered }

first_some : (w : Written) (ws : List Written) → AreRanges (w ∷ ws) → w.start < w.end
first_some w ws h = All-head (λ (v : Written). v.start < v.end) w ws h.some

-- no range after the first contains an offset below the first one's end
none_below : (place : ℕ) (ws : List Written) → All (λ (w : Written). place < w.start) ws → segment_at ws place ≡ None
none_below place [] all = refl
none_below place (w ∷ ws) all = grind (arith, within_low, All-head, none_below place ws (All-tail (λ (v : Written). place < v.start) w ws all))

none_behind : (w : Written) (ws : List Written) (place : ℕ) → AreRanges (w ∷ ws) → place < w.end → segment_at ws place ≡ None
none_behind w ws place h lt = none_below place ws (λ k d l. let b = (h.ordered 0 (suc k) d (omega arith) (omega arith)).apart in omega (arith, b))

-- the segment of the first range is the one at its start
first_at : (w : Written) (ws : List Written) → AreRanges (w ∷ ws) → segment_at (w ∷ ws) w.start ≡ Some w.segment
first_at w ws h = rw (within_yes w.start w.end w.start (omega arith) (first_some w ws h)) refl

abbrev range : ℕ → ℕ → ℕ → Written
range start end segment = record { start = start; end = end; segment = segment }

same_written : (x y : Written) → x.start ≡ y.start → x.end ≡ y.end → x.segment ≡ y.segment → x ≡ y
same_written x y a b c = grind arith

module _ (x y : Written) (xs ys : List Written) (hx : AreRanges (x ∷ xs)) (hy : AreRanges (y ∷ ys))
    (same : (place : ℕ) → segment_at (x ∷ xs) place ≡ segment_at (y ∷ ys) place) where
  -- the first range of one list does not begin before that of the other
  not_before : x.start < y.start → ⊥
  not_before lt =
      let l = first_some y ys hy in
      let none : segment_at (y ∷ ys) x.start ≡ None = rw (within_low y.start y.end x.start lt) (none_behind y ys x.start hy (omega (arith, l, lt))) in
      none_some (segment_at (y ∷ ys) x.start) x.segment none (sym (same x.start) ∙ first_at x xs hx)

  -- nor does it end before the other, where they begin together and have the same segment
  not_shorter : x.start ≡ y.start → x.segment ≡ y.segment → x.end < y.end → ⊥
  not_shorter start segment lt =
      let l = first_some x xs hx in
      let at : segment_at (y ∷ ys) x.end ≡ Some y.segment = rw (within_yes y.start y.end x.end (omega (arith, start, l)) lt) refl in
      let next : segment_at (x ∷ xs) x.end ≡ segment_at xs x.end = rw (within_high x.start x.end x.end (omega arith)) refl in
      let r = range_at xs x.end y.segment (sym next ∙ same x.end ∙ at) in
      let b = pair_at IsBefore (x ∷ xs) 0 (suc r.index) x r.range hx.ordered refl r.is_range (omega arith) in
      let a = b.apart in
      let f = r.from in
      b.differ (omega (arith, a, f)) (segment ∙ sym r.owner)

-- the ranges after a first one that both lists have
same_behind : (w : Written) (xs ys : List Written) → AreRanges (w ∷ xs) → AreRanges (w ∷ ys)
    → ((place : ℕ) → segment_at (w ∷ xs) place ≡ segment_at (w ∷ ys) place) → (place : ℕ) → segment_at xs place ≡ segment_at ys place
same_behind w xs ys hx hy same place = grind (arith, none_behind w xs place hx, none_behind w ys place hy, within_high, same place)

-- lists of ranges that give each offset the same segment are equal
one_list : (xs ys : List Written) → AreRanges xs → AreRanges ys → ((place : ℕ) → segment_at xs place ≡ segment_at ys place) → xs ≡ ys
one_list [] [] hx hy same = refl
one_list [] (y ∷ ys) hx hy same = none_some (segment_at (y ∷ ys) y.start) y.segment (sym (same y.start)) (first_at y ys hy)
one_list (x ∷ xs) [] hx hy same = none_some (segment_at (x ∷ xs) x.start) x.segment (same x.start) (first_at x xs hx)
one_list (x ∷ xs) (y ∷ ys) hx hy same =
    let back : (place : ℕ) → segment_at (y ∷ ys) place ≡ segment_at (x ∷ xs) place = λ place. sym (same place) in
    let start : x.start ≡ y.start = equal x.start y.start (not_before x y xs ys hx hy same) (not_before y x ys xs hy hx back) in
    let segment : x.segment ≡ y.segment = two_some (segment_at (y ∷ ys) x.start) x.segment y.segment (sym (same x.start) ∙ first_at x xs hx) (rw start (first_at y ys hy)) in
    let end : x.end ≡ y.end = equal x.end y.end (not_shorter x y xs ys hx hy same start segment) (not_shorter y x ys xs hy hx back (sym start) (sym segment)) in
    let first : x ≡ y = same_written x y start end segment in
    with_first first (one_list xs ys (ranges_behind x xs hx) (ranges_behind y ys hy)) where
      equal : (m n : ℕ) → (m < n → ⊥) → (n < m → ⊥) → m ≡ n
      equal m n low high = grind arith

      with_first : x ≡ y → (((place : ℕ) → segment_at xs place ≡ segment_at ys place) → xs ≡ ys) → x ∷ xs ≡ y ∷ ys
      with_first is rest = let tails : xs ≡ ys = rest (same_behind y xs ys (rw is at hx) hy (λ place. rw is at same place)) in rw (is, tails) refl

pub one_written : (segments : List (ℕ × ℕ)) (xs ys : List Written) → AreWritten segments xs → AreWritten segments ys → xs ≡ ys
one_written segments xs ys hx hy = grind (arith, one_list)
