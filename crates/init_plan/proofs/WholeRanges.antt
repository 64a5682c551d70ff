-- The runtime data of images begin and end at multiples of the page size.
use Rattle.std.proofs.Common.{◌≡◌, ℕ, zero, suc, ◌+◌, ◌*◌, ◌/◌, ◌%◌, ◌⊎◌, inl, inr, List, [], ◌∷◌, ◌++◌, length, map, Option, None, Some, refl, sym, ◌∙◌, ap, arith}
use Rattle.std.specs.Prelude.{slice_get, IsSomeAnd}
use Rattle.std.proofs.Math.Nat.{mod-add-div', add-mul-mod_self_right, mul-mod_left, zero-mod, zero-add}
use Rattle.std.proofs.lemmas.Option.{none-some, same_Some}
use Rattle.replay_spec.specs.Data.{ActiveSegment}
use Rattle.replay_spec.specs.Plan.{MemoryPlan, ranges_from}
use Rattle.replay_spec.specs.Images.{ImageOptions, ImageMemory, MemoryImage, IsImage, written_on, image_map, image_bytes, PlansImages, PlansSegments, IsMemoryPlan}
use Rattle.init_plan.specs.Images.{IsWholeRange, HasWholeRanges}

-- ---- complete pages

sum_whole : (a b p : ℕ) → a % p ≡ 0 → b % p ≡ 0 → (a + b) % p ≡ 0
sum_whole a b p x y = ap (λ n. n % p) (over (a % p) (a / p * p) (mod-add-div' a p) x) ∙ add-mul-mod_self_right b (a / p) p ∙ y where
  over : (m q : ℕ) → m + q ≡ a → m ≡ 0 → a + b ≡ b + q
  over m q e z = omega (arith, e, z)

image_whole : (page : ℕ) (contents : ℕ → ℕ) (image : MemoryImage) → IsImage page contents image → length image.bytes % page ≡ 0
image_whole page contents image i =
    sym (add-mul-mod_self_right (length image.bytes) (i.first / page) page)
    ∙ ap (λ n. n % page) (over (i.first / page * page) ((i.last / page + 1) * page) i.start i.end) ∙ mul-mod_left (i.last / page + 1) page where
      over : (x y : ℕ) → image.start ≡ x → image.start + length image.bytes ≡ y → length image.bytes + x ≡ y
      over x y a b = omega (arith, a, b)

abbrev AreWhole : ℕ → List (Option MemoryImage) → Type 0
AreWhole page images = (k : ℕ) (image : MemoryImage) → slice_get images k ≡ Some (Some image) → length image.bytes % page ≡ 0

-- the range of an image whose index counts from base, where the ranges continue from an offset
abbrev RangeOf : ℕ → List (List ℕ) → ℕ → ℕ → ℕ → Type 0
RangeOf page runtime base from index = (i : ℕ) × (index ≡ base + i) × IsSomeAnd (slice_get (ranges_from from (map length runtime)) i) (IsWholeRange page)

range_of : (page : ℕ) (images : List (Option MemoryImage)) (passive : List (List ℕ)) (base from : ℕ) → from % page ≡ 0 → AreWhole page images
    → (m start index : ℕ) → slice_get (image_map base images) m ≡ Some (Some (start, index)) → RangeOf page (image_bytes images ++ passive) base from index
range_of page [] passive base from whole_from are m start index at = absurd (none-some _ at)
range_of page (None ∷ images) passive base from whole_from are zero start index at = absurd (none-some _ (same_Some _ _ at))
range_of page (None ∷ images) passive base from whole_from are (suc m) start index at =
    range_of page images passive base from whole_from (λ k image found. are (suc k) image found) m start index at
range_of page (Some image ∷ images) passive base from whole_from are zero start index at =
    let same = ap (λ (p : ℕ × ℕ). p.1) (same_Some _ _ (same_Some _ _ at)) in
    (0, omega (arith, same), (whole_from, sum_whole from (length image.bytes) page whole_from (are 0 image refl)))
range_of page (Some image ∷ images) passive base from whole_from are (suc m) start index at =
    let h = range_of page images passive (base + 1) (from + length image.bytes) (sum_whole from (length image.bytes) page whole_from (are 0 image refl))
    (λ k i found. are (suc k) i found) m start index at in
    (suc h.0, (let e = h.1 in omega (arith, e)), h.2)

pub whole_ranges : (options : ImageOptions) (imports : ℕ) (memories : List ImageMemory) (active : List ActiveSegment) (passive : List (List ℕ)) (plan : MemoryPlan)
    → IsMemoryPlan options imports memories active passive plan → HasWholeRanges options.page plan.images (ranges_from 0 (map length plan.runtime))
whole_ranges options imports memories active passive plan h = by h.segments where
  by : PlansImages options imports memories active passive plan ⊎ PlansSegments options imports memories active passive plan
      → HasWholeRanges options.page plan.images (ranges_from 0 (map length plan.runtime))
  by (inr a) m start index at = let none : slice_get [] m ≡ Some (Some (start, index)) = rw a.in_map at at in absurd (none-some _ none)
  by (inl a) m start index at =
      let r = range_of options.page a.images passive 0 0 (zero-mod options.page)
      (λ k image found. image_whole options.page (written_on active k) image (a.are_images.each k (Some image) found)) m start index (rw a.in_map at at) in
      rw (a.runtime, r.1 ∙ zero-add r.0) r.2
