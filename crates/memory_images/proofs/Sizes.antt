-- The images of all memories, and how large they are.
use Rattle.std.proofs.Common.{◌≡◌, ℕ, suc, ◌+◌, ◌-◌, ◌^◌, ◌<◌, ◌≤◌, List, [], ◌∷◌, ◌++◌, length, take, sum_by, min, Option, None, Some, refl, sym, ◌∙◌, subst, arith}
use Rattle.std.specs.Prelude.{slice_get, IfSome, IfNone}
use Rattle.std.specs.Global.{Vec}
use Rattle.std.proofs.lemmas.Bool.{cases_lt}
use Rattle.std.proofs.lemmas.List.{length_push, length-take-le, get_or_push, get_or-take, get_or_append_left}
use Rattle.std.proofs.lemmas.List.Sums.{sum_by-cons}
use Rattle.std.proofs.lemmas.Option.{slice_get-get_or, slice_get_within, get_or_from_slice_get}
use Rattle.replay_spec.specs.Phases.{last_item}
use Rattle.replay_spec.specs.Images.{MemoryImage, IsImage, ImageOf, image_bytes}
use Rattle.replay_spec.proofs.One.{same-first, same-last}
use Rattle.memory_images.specs.declared.placed_segment.PlacedSegment.{PlacedSegment}
use Rattle.memory_images.specs.declared.span.PageSpan.{PageSpan}
use Rattle.memory_images.specs.Contents.{contents_of, contents_at, pieces_in}
use Rattle.memory_images.specs.Image.{IsSpan, SpanOf}
use Rattle.memory_images.specs.Images.{AreListed, span_size}
use Rattle.memory_images.specs.Past.{PassesAt}

pub listed_more : {A : Type 0} (R : ℕ → A → Type 0) (n : ℕ) (ys : List A) (y : A) → R n y → AreListed R n ys → AreListed R (n + 1) (ys ++ y ∷ [])
listed_more R n ys y h so_far = record {
  count = grind (arith, length_push, so_far.count);
  each = λ m answer at. grind (arith, so_far.count, so_far.each m, cases_lt m (length ys), slice_get_within (ys ++ y ∷ []) m answer at, get_or_from_slice_get (ys ++ y ∷ []) m answer answer at, slice_get-get_or ys m answer, get_or_append_left, get_or_push, length_push);
}

listed_behind : {A : Type 0} (R : ℕ → A → Type 0) (n : ℕ) (x : A) (xs : List A) → AreListed R (suc n) (x ∷ xs) → AreListed (λ m. R (suc m)) n xs
listed_behind R n x xs h = record { count = (let c = h.count in omega arith); each = λ m answer at. h.each (suc m) answer at }

-- a fact of the contents of a memory, by its number
pub span_from : (page : ℕ) (all : List (Vec PlacedSegment)) (m : ℕ) (laid : Vec PlacedSegment) (span : Option PageSpan) → slice_get all m ≡ Some laid → SpanOf page (contents_at all m) span → SpanOf page (contents_of laid.items) span
span_from page all m laid span at h = subst (λ o. SpanOf page (λ place. last_item 0 place 0 (pieces_in o)) span) at h

pub image_at : (page : ℕ) (all : List (Vec PlacedSegment)) (m : ℕ) (laid : Vec PlacedSegment) (image : Option MemoryImage) → slice_get all m ≡ Some laid → ImageOf page (contents_of laid.items) image → ImageOf page (contents_at all m) image
image_at page all m laid image at h = subst (λ o. ImageOf page (λ place. last_item 0 place 0 (pieces_in o)) image) (sym at) h

size_image : (page : ℕ) (c : ℕ → ℕ) (s : PageSpan) (i : MemoryImage) → IsSpan page c s → IsImage page c i → s.size ≡ min (length i.bytes) (2 ^ 64 - 1)
size_image page c s i span image = grind (arith, same-first, same-last)

-- spans and images of the same contents are together above 4294967295 bytes in the same cases
pub same_sums : (page : ℕ) (contents : ℕ → ℕ → ℕ) (n : ℕ) (spans : List (Option PageSpan)) (images : List (Option MemoryImage))
    → AreListed (λ m. SpanOf page (contents m)) n spans → AreListed (λ m. ImageOf page (contents m)) n images
    → min (sum_by span_size spans) (2 ^ 32) ≡ min (sum_by length (image_bytes images)) (2 ^ 32)
same_sums page contents n [] [] z w = refl
same_sums page contents n [] (i ∷ is) z w = absurd (let a = z.count in let b = w.count in omega (arith, a, b))
same_sums page contents n (s ∷ ss) [] z w = absurd (let a = z.count in let b = w.count in omega (arith, a, b))
same_sums page contents n (s ∷ ss) (i ∷ is) z w = by_first s i (z.each 0 s refl) (w.each 0 i refl) (same_sums page (λ m. contents (suc m)) (length ss) ss is
    (listed_behind (λ m. SpanOf page (contents m)) (length ss) s ss (record { count = refl; each = z.each }))
    (listed_behind (λ m. ImageOf page (contents m)) (length ss) i is (record { count = w.count ∙ sym z.count; each = w.each }))) where
      by_first : (s : Option PageSpan) (i : Option MemoryImage) → SpanOf page (contents 0) s → ImageOf page (contents 0) i
          → min (sum_by span_size ss) (2 ^ 32) ≡ min (sum_by length (image_bytes is)) (2 ^ 32)
          → min (sum_by span_size (s ∷ ss)) (2 ^ 32) ≡ min (sum_by length (image_bytes (i ∷ is))) (2 ^ 32)
      by_first None None a b more = let one = sum_by-cons span_size None ss in omega (arith, one, more)
      by_first None (Some i) a b more = absurd (b.is_first.nonzero (a b.first))
      by_first (Some s) None a b more = absurd (a.is_first.nonzero (b a.ends.first))
      by_first (Some s) (Some i) a b more = grind (arith, sum_by-cons span_size (Some s) ss, sum_by-cons length i.bytes (image_bytes is), size_image page (contents 0) s i a b)

-- ---- the first of them

listed_first : {A : Type 0} (R : ℕ → A → Type 0) (n k : ℕ) (ys : List A) → k ≤ n → AreListed R n ys → AreListed R k (take k ys)
listed_first R n k ys le h = record {
  count = length-take-le k ys (let c = h.count in omega (arith, c, le));
  each = λ m answer at. h.each m answer (first_at m answer at (slice_get_within (take k ys) m answer at));
} where
  first_at : (m : ℕ) (answer : _) → slice_get (take k ys) m ≡ Some answer → m < length (take k ys) → slice_get ys m ≡ Some answer
  first_at m answer at l = grind (arith, h.count, length-take-le k ys, get_or_from_slice_get (take k ys) m answer answer at, get_or-take k ys m answer, slice_get-get_or ys m answer)

module _ (page : ℕ) (contents : ℕ → ℕ → ℕ) (n : ℕ) (spans : List (Option PageSpan)) (listed : AreListed (λ m. SpanOf page (contents m)) n spans) where
  first_sums : (images : List (Option MemoryImage)) → AreListed (λ m. ImageOf page (contents m)) n images → (k : ℕ) → k ≤ n
      → min (sum_by span_size (take k spans)) (2 ^ 32) ≡ min (sum_by length (image_bytes (take k images))) (2 ^ 32)
  first_sums images are k le = same_sums page contents k (take k spans) (take k images)
      (listed_first (λ m. SpanOf page (contents m)) n k spans le listed) (listed_first (λ m. ImageOf page (contents m)) n k images le are)

  -- images pass where the spans of the same contents do
  pub pass_there : (passive : ℕ) (o : Option ℕ) → IfSome o (λ k. k < length spans) → IfSome o (λ k. passive + sum_by span_size (take k spans) < 2 ^ 32)
      → IfSome o (λ k. 2 ^ 32 ≤ passive + sum_by span_size (take (k + 1) spans))
      → IfSome o (λ k. (images : List (Option MemoryImage)) → AreListed (λ m. ImageOf page (contents m)) n images → PassesAt images passive k)
  pass_there passive None l fits passes = tt
  pass_there passive (Some k) l fits passes = λ images are. let c = listed.count in record {
    fits = let same = first_sums images are k (omega (arith, c, l)) in omega (arith, same, fits);
    passes = let same = first_sums images are (k + 1) (omega (arith, c, l)) in omega (arith, same, passes);
  }

  -- they fit where the spans do
  pub fit_there : (passive : ℕ) (o : Option ℕ) → IfNone o (passive + sum_by span_size spans < 2 ^ 32)
      → IfNone o ((images : List (Option MemoryImage)) → AreListed (λ m. ImageOf page (contents m)) n images → passive + sum_by length (image_bytes images) < 2 ^ 32)
  fit_there passive None fits = λ images are. let same = same_sums page contents n spans images listed are in omega (arith, same, fits)
  fit_there passive (Some k) fits = tt
