-- What a plan of memories says of its images and of its segments.
use Rattle.std.proofs.Common.{◌≡◌, ℕ, zero, suc, ◌+◌, ◌-◌, ◌%◌, ◌<◌, ◌≤◌, List, [], ◌∷◌, ◌++◌, length, Option, None, Some, refl, sym, ◌∙◌, ap, subst, arith}
use Rattle.std.specs.Prelude.{slice_get, All}
use Rattle.std.specs.Int.{IsPowerOfTwo}
use Rattle.std.proofs.Math.Logic.{⊎_elim}
use Rattle.std.proofs.lemmas.List.{length_push}
use Rattle.std.proofs.lemmas.List.Elements.{All-nil, All-cons, All-head, All-tail}
use Rattle.std.proofs.lemmas.Option.{none-some, same_Some}
use Rattle.replay_spec.specs.Data.{ActiveSegment}
use Rattle.replay_spec.specs.Plan.{MemoryPlan, PlannedSegment, runtime_bytes, planned_from}
use Rattle.replay_spec.specs.Images.{ImageOptions, ImageMemory, size_of, MemoryImage, IsImage, written_on, image_map, entries_of, image_bytes, PlansImages, PlansSegments, IsMemoryPlan}
use Rattle.replay_spec.proofs.Kept.{bytes-at, next-runtime}
use Rattle.replay_spec.proofs.Joined.{home}
use Rattle.replay_spec.proofs.Tight.{tight-image}
use Rattle.init_plan.specs.Views.{IsStatic}

-- an entry of the map is an image, whose bytes are its runtime data
record IsEntry (plan : MemoryPlan) (images : List (Option MemoryImage)) (i : ℕ) (entry : ℕ × ℕ) : Type 0 where
  pub image : MemoryImage
  pub at : slice_get images i ≡ Some (Some image)
  pub start : entry.0 ≡ image.start
  pub bytes : runtime_bytes plan entry.1 ≡ image.bytes

entry-read : (plan : MemoryPlan) (images : List (Option MemoryImage)) (before after : List (List ℕ)) (n : ℕ) → n ≡ length before
    → plan.runtime ≡ before ++ (image_bytes images ++ after) → (i : ℕ) (entry : ℕ × ℕ) → slice_get (image_map n images) i ≡ Some (Some entry)
    → IsEntry plan images i entry
entry-read plan [] before after n is runtime i entry at = absurd (none-some _ at)
entry-read plan (None ∷ images) before after n is runtime zero entry at = absurd (none-some _ (same_Some _ _ at))
entry-read plan (None ∷ images) before after n is runtime (suc i) entry at =
    let r = entry-read plan images before after n is runtime i entry at in
    record { image = r.image; at = r.at; start = r.start; bytes = r.bytes }
entry-read plan (Some image ∷ images) before after n is runtime zero entry at =
    let same : (image.start, n) ≡ entry = same_Some _ _ (same_Some _ _ at) in
    record {
      image = image;
      at = refl;
      start = sym (ap (λ (p : ℕ × ℕ). p.0) same);
      bytes = ap (λ (p : ℕ × ℕ). runtime_bytes plan p.1) (sym same) ∙ bytes-at plan before (image_bytes images ++ after) image.bytes n is runtime;
    }
entry-read plan (Some image ∷ images) before after n is runtime (suc i) entry at =
    let r = entry-read plan images (before ++ image.bytes ∷ []) after (n + 1) (omega (arith, is, length_push before image.bytes))
    (next-runtime plan before (image_bytes images ++ after) image.bytes runtime) i entry at in
    record { image = r.image; at = r.at; start = r.start; bytes = r.bytes }

-- ---- segments

map-long : (n : ℕ) (images : List (Option MemoryImage)) → length (image_map n images) ≡ length images
map-long n [] = refl
map-long n (None ∷ images) = ap suc (map-long n images)
map-long n (Some image ∷ images) = ap suc (map-long (n + 1) images)

abbrev AreStatic : List PlannedSegment → Type 0
AreStatic segments = All (λ s. IsStatic s.offset) segments

abbrev AreBelow : ℕ → List PlannedSegment → Type 0
AreBelow n segments = All (λ s. s.memory < n) segments

entries-static : (n : ℕ) (images : List (Option (ℕ × ℕ))) → AreStatic (entries_of n images)
entries-static n [] = All-nil (λ (s : PlannedSegment). IsStatic s.offset)
entries-static n (None ∷ images) = entries-static (n + 1) images
entries-static n (Some image ∷ images) = All-cons (λ (s : PlannedSegment). IsStatic s.offset) _ (entries_of (n + 1) images) tt (entries-static (n + 1) images)

entries-below : (n end : ℕ) (images : List (Option (ℕ × ℕ))) → n + length images ≡ end → AreBelow end (entries_of n images)
entries-below n end [] is = All-nil (λ (s : PlannedSegment). s.memory < end)
entries-below n end (None ∷ images) is = entries-below (n + 1) end images (omega arith)
entries-below n end (Some image ∷ images) is =
    All-cons (λ (s : PlannedSegment). s.memory < end) _ (entries_of (n + 1) images) (omega arith) (entries-below (n + 1) end images (omega arith))

planned-below : (n end : ℕ) (active : List ActiveSegment) → All (λ s. s.memory < end) active → AreBelow end (planned_from n active)
planned-below n end [] low = All-nil (λ (s : PlannedSegment). s.memory < end)
planned-below n end (s ∷ ss) low =
    All-cons (λ (x : PlannedSegment). x.memory < end) _ (planned_from (n + 1) ss) (All-head (λ (x : ActiveSegment). x.memory < end) s ss low)
    (planned-below (n + 1) end ss (All-tail (λ (x : ActiveSegment). x.memory < end) s ss low))

-- ---- a plan

-- an image is of a defined memory, is within it, and is complete pages; no segment then remains to
-- be written
pub record IsImageOf (page imports : ℕ) (memories : List ImageMemory) (plan : MemoryPlan) (i : ℕ) (entry : ℕ × ℕ) : Type 0 where
  pub defined : imports ≤ i
  pub memory : ImageMemory
  pub is_memory : slice_get memories (i - imports) ≡ Some memory
  pub start : entry.0 % page ≡ 0
  pub whole : length (runtime_bytes plan entry.1) % page ≡ 0
  pub within : entry.0 + length (runtime_bytes plan entry.1) ≤ size_of memory
  pub alone : AreStatic plan.segments

module _ (options : ImageOptions) (imports : ℕ) (memories : List ImageMemory) (active : List ActiveSegment) (passive : List (List ℕ)) (plan : MemoryPlan)
    (page : IsPowerOfTwo options.page) where
  images-of : PlansImages options imports memories active passive plan → (i : ℕ) (entry : ℕ × ℕ) → slice_get plan.images i ≡ Some (Some entry)
      → IsImageOf options.page imports memories plan i entry
  images-of a i entry at =
      let e = entry-read plan a.images [] passive 0 refl a.runtime i entry (rw a.in_map at at) in
      let is : IsImage options.page (written_on active i) e.image = a.are_images.each i (Some e.image) e.at in
      let h = home options imports memories active a.static page i e.image is in
      let tight = tight-image options imports memories active page a.static i e.image is h.memory h.is_memory in
      record {
        defined = h.defined;
        memory = h.memory;
        is_memory = h.is_memory;
        start = ap (λ n. n % options.page) e.start ∙ tight.whole_start;
        whole = ap (λ (bytes : List ℕ). length bytes % options.page) e.bytes ∙ tight.whole_pages;
        within = let long = ap length e.bytes in omega (arith, h.within, e.start, long);
        alone = subst AreStatic (sym a.in_list) (entries-static 0 plan.images);
      }

  pub images-are : IsMemoryPlan options imports memories active passive plan → (i : ℕ) (entry : ℕ × ℕ) → slice_get plan.images i ≡ Some (Some entry)
      → IsImageOf options.page imports memories plan i entry
  images-are is i entry at = ⊎_elim (λ a. images-of a i entry at)
      (λ (a : PlansSegments options imports memories active passive plan).
      let none : slice_get [] i ≡ Some (Some entry) = rw a.in_map at at in absurd (none-some _ none))
      is.segments

  pub segments-below : IsMemoryPlan options imports memories active passive plan → (end : ℕ) → imports + length memories ≡ end
      → All (λ s. s.memory < end) active → AreBelow end plan.segments
  segments-below is end all low = ⊎_elim
      (λ (a : PlansImages options imports memories active passive plan).
      let count = map-long 0 a.images in
      let long = ap length a.in_map in
      subst (AreBelow end) (sym a.in_list) (entries-below 0 end plan.images (omega (arith, count, long, a.are_images.count, all))))
      (λ (a : PlansSegments options imports memories active passive plan). subst (AreBelow end) (sym a.in_list) (planned-below 0 end active low))
      is.segments
