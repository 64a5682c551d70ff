-- The segments of memories that are kept, and the startup that they require.
use Rattle.std.proofs.Common.{◌≡◌, ℕ, Bool, true, false, List, [], ◌∷◌, map, All, Option, None, Some, refl, sym, ◌∙◌, ap, subst, arith, ◌+◌, ◌-◌}
use Rattle.std.specs.Prelude.{IsTrue, is_none, slice_get}
use Rattle.std.specs.Option.{option_map}
use Rattle.std.specs.List.{filter_map, list_all}
use Rattle.std.specs.Int.{IsPowerOfTwo}
use Rattle.std.proofs.lemmas.Bool.{false≢true}
use Rattle.std.proofs.lemmas.List.Elements.{All-nil, All-cons, All-head, All-tail}
use Rattle.wasm_index.specs.declared.index.Index.{Index}
use Rattle.wasm_index.specs.declared.spaces.MemorySpace.{MemorySpace}
use Rattle.wasm_index.specs.declared.spaces.RuntimeDataSpace.{RuntimeDataSpace}
use Rattle.wasm_index.specs.Index.{number_of}
use Rattle.wasm_module.specs.declared.startup.ModuleStartup.{ModuleStartup}
use Rattle.replay_spec.specs.Data.{ActiveSegment}
use Rattle.replay_spec.specs.Images.{ImageOptions, ImageMemory}
use Rattle.replay_spec.specs.Plan.{MemoryPlan, PlannedSegment, left_to_write}
use Rattle.replay_spec.specs.Startup.{is_empty}
use Rattle.replay_spec.proofs.Tight.{tight-image}
use Rattle.init_plan.specs.declared.translation.ModuleTranslation.{ModuleTranslation}
use Rattle.init_plan.specs.declared.translation.MemorySegmentOffset.{MemorySegmentOffset}
use Rattle.init_plan.specs.declared.translation.MemorySegmentOffset.TheVariants as offset
use Rattle.init_plan.specs.Images.{HasTightImages}
use Rattle.init_plan.specs.Startup.{with_startup}
use Rattle.init_plan.specs.Views.{IsStatic, planned_offset_of, planned_segment_of, OnlyMemoriesChange, OnlyMemoryInitChanges}

abbrev Segment : Type 0
Segment = Index MemorySpace × MemorySegmentOffset × Index RuntimeDataSpace

abbrev written : MemoryPlan → List Segment → List ActiveSegment
written plan ss = filter_map (λ (s : PlannedSegment). left_to_write plan s.offset s.memory s.index) (map planned_segment_of ss)

abbrev Placed : Segment → Type 0
Placed s = IsStatic (planned_offset_of s.1)

-- ---- the segments that are kept

places-none : (plan : MemoryPlan) (ss : List Segment) → All Placed ss → is_empty (written plan ss) ≡ true
places-none plan [] h = refl
places-none plan ((m, offset.Static place, i) ∷ ss) h = places-none plan ss (All-tail Placed (m, offset.Static place, i) ss h)
places-none plan ((m, offset.Expr e, i) ∷ ss) h = absurd (All-head Placed (m, offset.Expr e, i) ss h)

none-places : (plan : MemoryPlan) (ss : List Segment) → is_empty (written plan ss) ≡ true → All Placed ss
none-places plan [] h = All-nil Placed
none-places plan ((m, offset.Static place, i) ∷ ss) h = All-cons Placed (m, offset.Static place, i) ss tt (none-places plan ss h)
none-places plan ((m, offset.Expr e, i) ∷ ss) h = absurd (false≢true h)

pub places : (ss : List Segment) (b : Bool) → (IsTrue b → All Placed ss) × (All Placed ss → IsTrue b)
    → (plan : MemoryPlan) → b ≡ is_empty (written plan ss)
places ss true h plan = sym (places-none plan ss (h.0 refl))
places ss false h plan = over (is_empty (written plan ss)) refl where
  over : (x : Bool) → is_empty (written plan ss) ≡ x → false ≡ is_empty (written plan ss)
  over false e = sym e
  over true e = absurd (false≢true (h.1 (none-places plan ss e)))

abbrev Image : Type 0
Image = Option (ℕ × Index RuntimeDataSpace)

abbrev seen : List Image → List (Option (ℕ × ℕ))
seen images = map (option_map (λ image. (image.0, number_of image.1))) images

none-seen : (images : List Image) → All (λ (image : Image). image ≡ None) images → list_all is_none (seen images) ≡ true
none-seen [] h = refl
none-seen (None ∷ images) h = none-seen images (All-tail (λ (image : Image). image ≡ None) None images h)
none-seen (Some image ∷ images) h = let bad = All-head (λ (i : Image). i ≡ None) (Some image) images h in absurd cc

seen-none : (images : List Image) → list_all is_none (seen images) ≡ true → All (λ (image : Image). image ≡ None) images
seen-none [] h = All-nil (λ (image : Image). image ≡ None)
seen-none (None ∷ images) h = All-cons (λ (image : Image). image ≡ None) None images refl (seen-none images h)
seen-none (Some image ∷ images) h = absurd (false≢true h)

pub nones : (images : List Image) (b : Bool) → (IsTrue b → All (λ (image : Image). image ≡ None) images) × (All (λ (image : Image). image ≡ None) images → IsTrue b)
    → b ≡ list_all is_none (seen images)
nones images true h = sym (none-seen images (h.0 refl))
nones images false h = over (list_all is_none (seen images)) refl where
  over : (x : Bool) → list_all is_none (seen images) ≡ x → false ≡ list_all is_none (seen images)
  over false e = sym e
  over true e = absurd (false≢true (h.1 (seen-none images e)))

-- ---- frames and images

pub memories-frame : (old mid new : ModuleTranslation) (s : ModuleStartup) → OnlyMemoriesChange old mid → new ≡ with_startup mid s
    → OnlyMemoryInitChanges old new
memories-frame old mid new s same e = subst (OnlyMemoryInitChanges old) (sym e) (ap (λ t. with_startup t s) same)

pub are-tight : (options : ImageOptions) (imports : ℕ) (memories : List ImageMemory) (active : List ActiveSegment) (passive : List (List ℕ)) (plan : MemoryPlan)
    → IsPowerOfTwo options.page → HasTightImages options imports memories active passive plan
are-tight options imports memories active passive plan page = λ planned m memory image at is.
    let same : imports + m - imports ≡ m = omega arith in
    tight-image options imports memories active page planned.static (imports + m) image (planned.are_images.each (imports + m) (Some image) is)
    memory (ap (slice_get memories) same ∙ at)
