-- Ranges that are found from low offsets to high ones.
use Rattle.std.proofs.Common.{◌≡◌, ℕ, zero, suc, ◌+◌, ◌-◌, ◌^◌, ◌<◌, ◌≤◌, false, List, [], ◌∷◌, ◌++◌, length, take, get_or, min, All, AllPairs, Option, Some, None, refl, sym, ◌∙◌, ap, subst, arith}
use Rattle.std.specs.Prelude.{Contains, IsSome, IfSome, slice_get, slice_set}
use Rattle.std.specs.BinaryHeap.{IsUpperBound}
use Rattle.std.specs.List.Sorted.{IsPermutation}
use Rattle.std.specs.Ordering.{nat_cmp}
use Rattle.std.proofs.Math.Logic.{⊎_elim}
use Rattle.std.proofs.lemmas.Bool.{cases_lt}
use Rattle.std.proofs.lemmas.Bool.Decides.{nat_tests}
use Rattle.std.proofs.lemmas.List.{take_all, take_more, take_more_set, length-take, length-set, get_or-take}
use Rattle.std.proofs.lemmas.List.Elements.{All-push, All-cons, Contains-append_left, Contains-push, All-tail, All-take}
use Rattle.std.proofs.lemmas.List.Quantifiers.{all_pairs_push}
use Rattle.std.proofs.lemmas.List.Sorted.{All-permutation, Contains-permutation, le_from_greatest}
use Rattle.memory_images.specs.declared.written.Written.{Written}
use Rattle.memory_images.specs.Ranges.{is_within, later_or, last_cover, last_cover_from, segment_at, IsBefore, AreWritten}
use Rattle.memory_images.specs.Sweep.{start_of, end_of, AreWrittenBelow, AreBegun, AreActive, Keeps, AreStarts}
use Rattle.std.proofs.lemmas.Option.{slice_get-get_or}
use Rattle.memory_images.proofs.Lists.{two_some, pair_at}
use Rattle.memory_images.proofs.Covering.{within_yes, within_low, within_high}

-- an item that is read at a position is the item of the list there
pub read_at : {X : Type 0} (xs : List X) (n : ℕ) (x y : X) → n < length xs → x ≡ get_or xs n x → slice_get xs n ≡ Some y → x ≡ y
read_at xs n x y l is at = two_some (slice_get xs n) x y (slice_get-get_or xs n x l ∙ ap Some (sym is)) at

-- ---- the last pair that covers an offset

not_within : (start end place : ℕ) → (start ≤ place → place < end → ⊥) → is_within start end place ≡ false
not_within start end place never = grind (arith, nat_tests)

none_is : (n place : ℕ) (ps : List (ℕ × ℕ)) → ((k : ℕ) → k < length ps → start_of ps k ≤ place → place < end_of ps k → ⊥) → last_cover_from n place ps ≡ None
none_is n place [] none = refl
none_is n place (p ∷ ps) none = rw (none_is (suc n) place ps (λ k l. none (suc k) (omega arith)), not_within p.0 (p.0 + p.1) place (none 0 (omega arith))) refl

last_is : (n place : ℕ) (ps : List (ℕ × ℕ)) (k : ℕ) → k < length ps → start_of ps k ≤ place → place < end_of ps k
    → ((j : ℕ) → k < j → j < length ps → start_of ps j ≤ place → place < end_of ps j → ⊥) → last_cover_from n place ps ≡ Some (n + k)
last_is n place [] k l from upto none = absurd (omega arith)
last_is n place (p ∷ ps) zero l from upto none =
    grind (arith, within_yes p.0 (p.0 + p.1) place from upto, none_is (suc n) place ps (λ j m. none (suc j) (omega arith) (omega arith)))
last_is n place (p ∷ ps) (suc k) l from upto none =
    grind (arith, last_is (suc n) place ps k (omega arith) from upto (λ j m i. none (suc j) (omega arith) (omega arith)))

-- ---- one more range

at-push : (ws : List Written) (w : Written) (place : ℕ) → segment_at (ws ++ w ∷ []) place ≡ later_or (segment_at ws place) (is_within w.start w.end place) w.segment
at-push [] w place = refl
at-push (v ∷ ws) w place = grind (arith, (at-push ws w place))

none_above : (n place : ℕ) (ws : List Written) → n ≤ place → All (λ w. w.end ≤ n) ws → segment_at ws place ≡ None
none_above n place [] l all = refl
none_above n place (w ∷ ws) l all = grind (arith, within_high, all 0 w (omega arith), none_above n place ws l (All-tail (λ (v : Written). v.end ≤ n) w ws all))

module _ (segments : List (ℕ × ℕ)) (start end : ℕ) (some : start < end) where
  -- the last range reaches from a start, or from below it, up to an end
  reaches : (init : List Written) (w : Written) → w.start ≤ start → w.end ≡ end → ((place : ℕ) → start ≤ place → place < end → last_cover segments place ≡ Some w.segment)
      → ((place : ℕ) → place < start → segment_at (init ++ w ∷ []) place ≡ last_cover segments place) → All (λ v. v.end ≤ start) init → All (λ v. v.start < v.end) init
      → AllPairs IsBefore (init ++ w ∷ []) → AreWrittenBelow segments end (init ++ w ∷ [])
  reaches init w from upto owner low below somes ordered = record {
    places = grind (arith, none_above, within_yes, at-push);
    below = All-push (λ (v : Written). v.end ≤ end) init w (λ k d l. omega (arith, below k d l)) (omega arith);
    some = All-push (λ (v : Written). v.start < v.end) init w somes (omega arith);
    ordered = ordered;
  }

  module _ (ranges : List Written) (w : Written) (upto : w.end ≡ end) (owner : (place : ℕ) → start ≤ place → place < end → last_cover segments place ≡ Some w.segment)
      (a : AreWrittenBelow segments start ranges) where
    -- one more range, where the last range belongs to another segment or ends earlier
    pub added : w.start ≡ start → ((last : Written) → slice_get ranges (length ranges - 1) ≡ Some last → last.end ≡ start → last.segment ≡ w.segment → ⊥) → AreWrittenBelow segments end (ranges ++ w ∷ [])
    added from other = reaches ranges w (omega arith) upto owner low a.below a.some (all_pairs_push IsBefore ranges w a.ordered before) where
      low : (place : ℕ) → place < start → segment_at (ranges ++ w ∷ []) place ≡ last_cover segments place
      low place l = grind (arith, within_low, at-push, a.places place l)

      before : (k : ℕ) (d : Written) → k < length ranges → IsBefore (get_or ranges k d) w
      before k d l = grind (arith, slice_get-get_or)

    -- the last range, which ends at the start and belongs to the same segment, is extended
    pub lengthened : (last : Written) (n : ℕ) → n + 1 ≡ length ranges → last ≡ get_or ranges n last → last.end ≡ start → last.segment ≡ w.segment → w.start ≡ last.start
        → AreWrittenBelow segments end (slice_set ranges n w)
    lengthened last n count is_last touch same from =
        rw new_is (reaches init w low_start upto owner low (All-take (λ (v : Written). v.end ≤ start) n ranges a.below) (All-take (λ (v : Written). v.start < v.end) n ranges a.some)
        (all_pairs_push IsBefore init w pairs before)) where
          init : List Written
          init = take n ranges

          old_is : init ++ last ∷ [] ≡ ranges
          old_is = ap (λ (l : Written). init ++ l ∷ []) is_last ∙ sym (take_more ranges n last (omega arith)) ∙ take_all (n + 1) ranges (omega arith)

          new_is : slice_set ranges n w ≡ init ++ w ∷ []
          new_is = sym (take_all (n + 1) (slice_set ranges n w) (let l = length-set ranges n w in omega arith)) ∙ take_more_set ranges n w (omega arith)

          some_last : last.start < last.end
          some_last = rw is_last (a.some n last (omega arith))

          low_start : w.start ≤ start
          low_start = let s = some_last in omega (arith, s, from, touch)

          same_within : (place : ℕ) → place < start → is_within w.start w.end place ≡ is_within last.start last.end place
          same_within place l = grind (arith, nat_tests)

          low : (place : ℕ) → place < start → segment_at (init ++ w ∷ []) place ≡ last_cover segments place
          low place l = grind (arith, at-push, same_within, old_is, a.places place l)

          size : length init ≡ n
          size = let l = length-take n ranges in omega arith

          pairs : AllPairs IsBefore init
          pairs i j e lt l = grind (arith, size, get_or-take, a.ordered i j e lt)

          before : (k : ℕ) (e : Written) → k < length init → IsBefore (get_or init k e) w
          before k e l =
              let s = size in
              let x = get_or-take n ranges k e (omega arith) in
              let b : IsBefore (get_or ranges k e) last = pair_at IsBefore ranges k n (get_or ranges k e) last a.ordered (slice_get-get_or ranges k e (omega arith)) (slice_get-get_or ranges n last (omega arith) ∙ ap Some (sym is_last)) (omega arith) in
              let c = b.apart in
              rw x (record { apart = omega (arith, c, from); differ = λ meet alike. b.differ (meet ∙ from) (alike ∙ sym same) })

-- ---- active segments

of_all : (P : ℕ → Type 0) (xs : List ℕ) (x : ℕ) → All P xs → Contains xs x → P x
of_all P xs x all c = subst P c.2 (all c.0 x c.1)

module _ (segments : List (ℕ × ℕ)) (from at limit : ℕ) (old active : List ℕ) (begun : AreBegun segments from active) (acts : AreActive segments from limit old) (keeps : Keeps segments at old active)
    (low : from ≤ at) where
  -- the last of the active segments has the offsets that it covers
  pub owns : (top : ℕ) → Contains active top → IsUpperBound nat_cmp top active → (place : ℕ) → at ≤ place → place < min limit (end_of segments top) → last_cover segments place ≡ Some top
  owns top is_top greatest place l m = grind (arith, of_all, last_is, le_from_greatest)

  -- no segment is active any more
  pub idle : (ranges : List Written) → length active ≡ 0 → at ≤ limit → AreWrittenBelow segments at ranges → AreWrittenBelow segments limit ranges
  idle ranges none high a = record {
    places = λ place l. grind (arith, cases_lt place at, a.places place, none_above at place ranges, none_is 0 place segments);
    below = λ k d l. omega (arith, a.below k d l);
    some = a.some;
    ordered = a.ordered;
  }

-- the segments that remain active once the first, which has ended, is removed
module _ (segments : List (ℕ × ℕ)) (from at next : ℕ) (old active rest : List ℕ) (top : ℕ) (some : 0 < length active) (is_top : top ≡ get_or active 0 top) (begun : AreBegun segments from active)
    (keeps : Keeps segments at old active) (up : at ≤ next) (ended : end_of segments top ≤ next) where
  pub popped : (o : Option ℕ) → IsSome o → IfSome o (λ x. x ≡ get_or active 0 x) → IfSome o (λ x. IsPermutation active (x ∷ rest)) → AreBegun segments from rest × Keeps segments next old rest
  popped None is first moved = absurd cc
  popped (Some x) is first moved =
      let P : ℕ → Type 0 = λ k. (k < length segments) × (start_of segments k ≤ from) in
      let same : x ≡ top = read_at active 0 x top some first (slice_get-get_or active 0 top some ∙ ap Some (sym is_top)) in
      (All-tail P x rest (All-permutation P active (x ∷ rest) moved begun), kept same) where
        kept : x ≡ top → Keeps segments next old rest
        kept same k c past = grind (arith, Contains-permutation active (x ∷ rest) k moved (keeps k c (omega arith)))

-- ---- from start to start

-- those of the first segments that reach past an offset are active
abbrev pub AreKept : List (ℕ × ℕ) → List (ℕ × ℕ) → ℕ → ℕ → List ℕ → Type 0
AreKept segments starts i at active = (j : ℕ) → j < i → at < end_of segments (get_or starts j (0, 0)).1 → Contains active (get_or starts j (0, 0)).1

module _ (segments starts : List (ℕ × ℕ)) (are : AreStarts segments starts) where
  -- where the other segments start at a limit or above
  pub acts : (i at limit : ℕ) (active : List ℕ) → AreKept segments starts i at active → ((j : ℕ) → i ≤ j → j < length starts → limit ≤ (get_or starts j (0, 0)).0) → AreActive segments at limit active
  acts i at limit active kept late k l begins past =
      let c = are.each k l in
      let own : ℕ × ℕ = (start_of segments k, k) in
      let same : get_or starts c.0 (0, 0) ≡ own = two_some (slice_get starts c.0) (get_or starts c.0 (0, 0)) own (slice_get-get_or starts c.0 (0, 0) c.1) (slice_get-get_or starts c.0 own c.1 ∙ ap Some c.2) in
      let number : (get_or starts c.0 (0, 0)).1 ≡ k = ap (λ (s : ℕ × ℕ). s.1) same in
      ⊎_elim (λ (lt : c.0 < i). subst (Contains active) number (kept c.0 lt (let e = ap (end_of segments) number in omega (arith, e, past))))
      (λ (ge : i ≤ c.0). absurd (let e = ap (λ (s : ℕ × ℕ). s.0) same in let m = late c.0 ge c.1 in omega (arith, e, m, begins))) (cases_lt c.0 i)

  module _ (i at : ℕ) (first : ℕ × ℕ) (within : i < length starts) (is : first ≡ get_or starts i first) where
    is_first : first ≡ get_or starts i (0, 0)
    is_first = read_at starts i first (get_or starts i (0, 0)) within is (slice_get-get_or starts i (0, 0) within)

    pub rises : (j : ℕ) → i ≤ j → j < length starts → first.0 ≤ (get_or starts j (0, 0)).0
    rises j ge l = let s = ap (λ (s : ℕ × ℕ). s.0) is_first in let r = are.rise i j (0, 0) ge l in omega (arith, s, r)

    pub reached : ((j : ℕ) → i ≤ j → j < length starts → at ≤ (get_or starts j (0, 0)).0) → at ≤ first.0
    reached low = grind (arith, is_first)

    own : (first.1 < length segments) × (first.0 ≡ start_of segments first.1)
    own = rw is (are.numbers i first within)

    pub small : All (λ pair. pair.0 + pair.1 < 2 ^ 64) segments → first.0 ≤ 2 ^ 64 - 1
    small fits = grind (arith, own, fits first.1 (0, 0))

    module _ (old mid new : List ℕ) (moved : IsPermutation (first.1 ∷ mid) new) where
      pub begun_more : AreBegun segments first.0 mid → AreBegun segments first.0 new
      begun_more begun =
          let P : ℕ → Type 0 = λ k. (k < length segments) × (start_of segments k ≤ first.0) in
          All-permutation P (first.1 ∷ mid) new moved (All-cons P first.1 mid (grind (arith, own)) begun)

      pub kept_more : at ≤ first.0 → AreKept segments starts i at old → Keeps segments first.0 old mid → AreKept segments starts (i + 1) first.0 new
      kept_more up kept keeps j l past = Contains-permutation (first.1 ∷ mid) new (get_or starts j (0, 0)).1 moved (⊎_elim
          (λ (lt : j < i). let c = keeps (get_or starts j (0, 0)).1 (kept j lt (omega (arith, up, past))) past in (suc c.0, omega (arith, c.1), c.2))
          (λ (ge : i ≤ j). let same : i ≡ j = omega arith in (0, omega arith, ap (λ (s : ℕ × ℕ). s.1) is_first ∙ ap (λ n. (get_or starts n (0, 0)).1) same)) (cases_lt j i))

-- ---- the starts

abbrev pub IsNumber : List (ℕ × ℕ) → ℕ × ℕ → Type 0
IsNumber segments s = (s.1 < length segments) × (s.0 ≡ start_of segments s.1)

module _ (segments starts : List (ℕ × ℕ)) (i : ℕ) (within : i < length segments) where
  pub each_more : ((k : ℕ) → k < i → Contains starts (start_of segments k, k)) → (k : ℕ) → k < i + 1 → Contains (starts ++ (start_of segments i, i) ∷ []) (start_of segments k, k)
  each_more each k l = ⊎_elim (λ (lt : k < i). Contains-append_left starts ((start_of segments i, i) ∷ []) (start_of segments k, k) (each k lt))
      (λ (ge : i ≤ k). grind (arith, Contains-push starts (start_of segments i, i))) (cases_lt k i)

  pub numbers_more : All (IsNumber segments) starts → All (IsNumber segments) (starts ++ (start_of segments i, i) ∷ [])
  numbers_more all = All-push (IsNumber segments) starts (start_of segments i, i) all (within, refl)

-- ranges below the greatest 64-bit number are all ranges
pub all_written : (segments : List (ℕ × ℕ)) (ranges : List Written) → All (λ pair. pair.0 + pair.1 < 2 ^ 64) segments → AreWrittenBelow segments (2 ^ 64 - 1) ranges → AreWritten segments ranges
all_written segments ranges fits a = grind (arith, none_above, none_is)
