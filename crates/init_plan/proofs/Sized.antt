-- What is known of the size of a plan before it is made.
use Rattle.std.proofs.Common.{◌≡◌, ℕ, ◌^◌, ◌<◌, ◌≤◌, ◌+◌, false, List, ◌++◌, length, map, sum_by, Option, None, Some, inl, inr, ◌∙◌, ap, subst, arith}
use Rattle.std.proofs.lemmas.List.Sums.{sum_by-append}
use Rattle.std.specs.Global.{Vec}
use Rattle.memory_images.specs.declared.image.Image.{Image}
use Rattle.memory_images.specs.Images.{images_of as view_images}
use Rattle.replay_spec.specs.Plan.{MemoryPlan}
use Rattle.replay_spec.specs.Images.{ImageOptions, MemoryImage, IsStatic, AreImages, image_bytes, IsMemoryPlan}
use Rattle.replay_spec.proofs.One.{one-list}
use Rattle.init_plan.specs.declared.translation.ModuleTranslation.{ModuleTranslation}
use Rattle.init_plan.specs.Images.{image_memories, AreSized, WillHaveRuntimeSize}
use Rattle.init_plan.specs.Ready.{MemoryHalfIsReady}
use Rattle.init_plan.specs.Views.{initializers_of, passive_bytes, data_total}
use Rattle.init_plan.proofs.ImagesOff.{too_many}
use Rattle.init_plan.proofs.Planning.{view_count}

abbrev pub IsPlanFor : ImageOptions → ModuleTranslation → MemoryPlan → Type 0
IsPlanFor options t plan = IsMemoryPlan options t.module.num_imported_memories (image_memories t.module) (initializers_of t) (passive_bytes t) plan

module _ (options : ImageOptions) (t : ModuleTranslation) (ready : MemoryHalfIsReady t) where
  -- the runtime data of any plan fit
  pub fits_sized : (images : Option (Vec (Option Image))) → AreSized options t images → (plan : MemoryPlan) → IsPlanFor options t plan → sum_by length plan.runtime < 2 ^ 32
  fits_sized None sized plan is = elim is.segments [
    | inl a ↦ absurd (sized.0 a.static)
    | inr b ↦
        let total = ap (sum_by length) b.runtime ∙ sum_by-append length (map (λ s. s.bytes) (initializers_of t)) (passive_bytes t) in
        omega (arith, total, sized.1)
  ]
  fits_sized (Some v) sized plan is = elim is.segments [
    | inl a ↦
        let are : AreImages options.page (length t.module.memories) (initializers_of t) a.images =
        subst (λ (n : ℕ). AreImages options.page n (initializers_of t) a.images) (view_count t.module ready.imports) a.are_images in
        let same : a.images ≡ view_images v.items = one-list options.page (length t.module.memories) (initializers_of t) a.images (view_images v.items) are sized.1 in
        let total = ap (sum_by length) (a.runtime ∙ ap (λ (images : List (Option MemoryImage)). image_bytes images ++ passive_bytes t) same)
        ∙ sum_by-append length (image_bytes (view_images v.items)) (passive_bytes t) in
        omega (arith, total, sized.2)
    | inr b ↦ absurd (b.not_static sized.0)
  ]

  -- where images are off and the runtime data of every plan are too large, so are the data of the
  -- segments
  pub data_large : options.enabled ≡ false → ((plan : MemoryPlan) → IsPlanFor options t plan → 2 ^ 32 ≤ sum_by length plan.runtime) → 2 ^ 32 ≤ data_total t
  data_large off each =
      let much = too_many options t.module.num_imported_memories (image_memories t.module) (initializers_of t) (passive_bytes t) off (2 ^ 32) each in
      let total = sum_by-append length (map (λ s. s.bytes) (initializers_of t)) (passive_bytes t) in
      omega (arith, much, total)

  -- where the data of the segments fit, and images fit if there are any, no plan is too large
  pub none_large : data_total t < 2 ^ 32
      → ((images : List (Option MemoryImage)) → IsStatic options t.module.num_imported_memories (image_memories t.module) (initializers_of t)
      → AreImages options.page (length t.module.memories) (initializers_of t) images → sum_by length (passive_bytes t) + sum_by length (image_bytes images) < 2 ^ 32)
      → WillHaveRuntimeSize options t (λ size. 2 ^ 32 ≤ size) → ⊥
  none_large few fit much = elim much.is_plan.segments [
    | inl a ↦
        let are : AreImages options.page (length t.module.memories) (initializers_of t) a.images =
        subst (λ (n : ℕ). AreImages options.page n (initializers_of t) a.images) (view_count t.module ready.imports) a.are_images in
        let total = ap (sum_by length) a.runtime ∙ sum_by-append length (image_bytes a.images) (passive_bytes t) in
        let fits = fit a.images a.static are in
        omega (arith, total, fits, much.size)
    | inr b ↦
        let total = ap (sum_by length) b.runtime ∙ sum_by-append length (map (λ s. s.bytes) (initializers_of t)) (passive_bytes t) in
        omega (arith, total, few, much.size)
  ]
