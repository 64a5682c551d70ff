-- The worked plan of overlapping segments.
use Rattle.std.proofs.Common.{◌≡◌, ◌∙◌, ℕ, zero, suc, ◌+◌, ◌-◌, ◌<◌, ◌≤◌, List, [], ◌∷◌, ◌++◌, length, replicate, Option, Some, refl, sym, ap, subst, arith}
use Rattle.std.specs.Prelude.{slice_get, slice_index}
use Rattle.std.proofs.Math.Logic.{⊎_elim}
use Rattle.std.proofs.lemmas.Bool.{cases_lt}
use Rattle.std.proofs.lemmas.List.{length-replicate}
use Rattle.std.proofs.lemmas.Option.{none-some, same_Some}
use Rattle.replay_spec.specs.Data.{active_segments}
use Rattle.replay_spec.specs.Images.{MemoryImage, written_on, ImageOf, IsImage, AreImages, image_map, image_bytes, PlansImages, PlansSegments, IsMemoryPlan}
use Rattle.replay_spec.specs.Plan.{MemoryPlan}
use Rattle.replay_spec.specs.WorkedImages.{images_below, one_memory, image_at}
use Rattle.rule_spec.specs.WorkedKept.{overlapping}
use Rattle.replay_spec.proofs.One.{one-list}
use Rattle.replay_spec.proofs.WorkedImages.{zero-before, zero-behind, static-below}

-- ---- the bytes of the page

front-zero : (k i : ℕ) (xs : List ℕ) → i < k → slice_index (replicate k 0 ++ xs) i ≡ 0
front-zero zero i xs lt = absurd (omega arith)
front-zero (suc k) zero xs lt = refl
front-zero (suc k) (suc i) xs lt = front-zero k i xs (omega arith)

behind-front : (k i : ℕ) (xs : List ℕ) → k ≤ i → slice_index (replicate k 0 ++ xs) i ≡ slice_index xs (i - k)
behind-front zero i xs le = ap (slice_index xs) (omega arith)
behind-front (suc k) zero xs le = absurd (omega arith)
behind-front (suc k) (suc i) xs le = behind-front k i xs (omega arith) ∙ ap (slice_index xs) (omega arith)

all-zero : (n i : ℕ) → slice_index (replicate n 0) i ≡ 0
all-zero zero i = refl
all-zero (suc n) zero = refl
all-zero (suc n) (suc i) = all-zero n i

-- after 16 zeros
after-front : (n j : ℕ) → slice_index (1 ∷ 9 ∷ 3 ∷ replicate n 0) j ≡ written_on (active_segments overlapping) 0 (16 + j)
after-front n zero = refl
after-front n (suc zero) = refl
after-front n (suc (suc zero)) = refl
after-front n (suc (suc (suc j))) = all-zero n j ∙ sym (zero-behind (active_segments overlapping) 0 (16 + suc (suc (suc j))) (omega arith))

abbrev page_with : ℕ → List ℕ
page_with n = replicate 16 0 ++ 1 ∷ 9 ∷ 3 ∷ replicate n 0

page-bytes : (n i : ℕ) → slice_index (page_with n) i ≡ written_on (active_segments overlapping) 0 i
page-bytes n i = ⊎_elim
    (λ (lt : i < 16). front-zero 16 i (1 ∷ 9 ∷ 3 ∷ replicate n 0) lt ∙ sym (zero-before (active_segments overlapping) 0 i lt))
    (λ (le : 16 ≤ i). let same : 16 + (i - 16) ≡ i = omega arith in
    behind-front 16 i (1 ∷ 9 ∷ 3 ∷ replicate n 0) le ∙ after-front n (i - 16) ∙ ap (written_on (active_segments overlapping) 0) same)
    (cases_lt i 16)

page-length : (n : ℕ) → length (page_with n) ≡ 19 + n
page-length n = let e = length-replicate {A = ℕ} n 0 in omega (arith, e)

page-image : (n : ℕ) → 19 + n ≡ 4096 → IsImage 4096 (written_on (active_segments overlapping) 0) (image_at 0 (page_with n))
page-image n fills = record {
  first = 16;
  last = 18;
  is_first = record { nonzero = λ e. let h : ◌≡◌ {A = ℕ} 1 0 = e in omega arith; before = λ q lt. zero-before (active_segments overlapping) 0 q lt };
  is_last = record { nonzero = λ e. let h : ◌≡◌ {A = ℕ} 3 0 = e in omega arith; behind = λ q lt. zero-behind (active_segments overlapping) 0 q (omega arith) };
  start = refl;
  end = omega (arith, page-length n);
  bytes = λ i lt. let same : i ≡ 0 + i = omega arith in page-bytes n i ∙ ap (written_on (active_segments overlapping) 0) same;
}

-- ---- the plan

are-images : (n : ℕ) → 19 + n ≡ 4096 → AreImages 4096 1 (active_segments overlapping) (Some (image_at 0 (page_with n)) ∷ [])
are-images n fills = record { count = refl; each = each } where
  each : (m : ℕ) (image : Option MemoryImage) → slice_get (Some (image_at 0 (page_with n)) ∷ []) m ≡ Some image
      → ImageOf 4096 (written_on (active_segments overlapping) m) image
  each zero image at = subst (ImageOf 4096 (written_on (active_segments overlapping) 0)) (same_Some (Some (image_at 0 (page_with n))) image at) (page-image n fills)
  each (suc m) image at = absurd (none-some image at)

with-page : (n : ℕ) → 19 + n ≡ 4096 → (most : ℕ) (plan : MemoryPlan) → IsMemoryPlan (images_below most) 0 one_memory (active_segments overlapping) [] plan
    → (plan.images ≡ Some (0, 0) ∷ []) × (plan.runtime ≡ page_with n ∷ [])
with-page n fills most plan is = ⊎_elim
    (λ (h : PlansImages (images_below most) 0 one_memory (active_segments overlapping) [] plan).
    let one : h.images ≡ Some (image_at 0 (page_with n)) ∷ [] =
    one-list 4096 1 (active_segments overlapping) h.images (Some (image_at 0 (page_with n)) ∷ []) h.are_images (are-images n fills) in
    (h.in_map ∙ ap (image_map 0) one, h.runtime ∙ ap (λ (images : List (Option MemoryImage)). image_bytes images ++ []) one))
    (λ (h : PlansSegments (images_below most) 0 one_memory (active_segments overlapping) [] plan). absurd (h.not_static (static-below most)))
    is.segments

pub one-image : (most : ℕ) (plan : MemoryPlan) → IsMemoryPlan (images_below most) 0 one_memory (active_segments overlapping) [] plan
    → (plan.images ≡ Some (0, 0) ∷ []) × (plan.runtime ≡ (replicate 16 0 ++ 1 ∷ 9 ∷ 3 ∷ replicate 4077 0) ∷ [])
one-image = with-page 4077 refl
