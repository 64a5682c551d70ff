-- The plan of a translation is the plan of the definitions.
use Rattle.std.proofs.Common.{◌≡◌, ℕ, ◌+◌, ◌^◌, ◌<◌, ◌≤◌, List, [], ◌∷◌, ◌++◌, length, map, drop, Option, None, Some, inl, inr, refl, sym, ◌∙◌, ap, subst, arith, length-drop}
use Rattle.std.specs.Prelude.{IfSome}
use Rattle.std.specs.Global.{Vec}
use Rattle.std.specs.Option.{option_map}
use Rattle.std.proofs.lemmas.List.{length-map}
use Rattle.memory_images.specs.declared.image.Image.{Image}
use Rattle.memory_images.specs.Images.{image_of, images_of as view_images}
use Rattle.memory_images.specs.Views.{image_memory}
use Rattle.wasm_types.specs.declared.memory.Memory.{Memory}
use Rattle.wasm_types.specs.Memories.{minimum_bytes}
use Rattle.wasm_module.specs.declared.module.Module.{Module}
use Rattle.replay_spec.specs.Data.{ActiveSegment}
use Rattle.replay_spec.specs.Plan.{MemoryPlan, AgreesOver, planned_from}
use Rattle.replay_spec.specs.Images.{ImageOptions, MemoryImage, size_of, IsStatic, AreImages, IsMemoryPlan, image_map, entries_of, image_bytes}
use Rattle.init_plan.specs.declared.translation.ModuleTranslation.{ModuleTranslation}
use Rattle.init_plan.specs.Views.{initializers_of, passive_bytes, defined_sizes, images_of, processed_of, bytes_of, SameButSegments}
use Rattle.init_plan.specs.Images.{image_memories, AreSized, Begins, BeginsAsImages, KeepsSegments}
use Rattle.init_plan.specs.Ready.{MemoryHalfIsReady}
use Rattle.std.specs.Int.{IsPowerOfTwo}
use Rattle.replay_spec.proofs.Joined.{agrees}
use Rattle.init_plan.proofs.Unplanned.{images_of-segmented}

pub view_sizes : (memories : List Memory) → map minimum_bytes memories ≡ map size_of (map image_memory memories)
view_sizes [] = refl
view_sizes (m ∷ ms) = ap (λ ns. minimum_bytes m ∷ ns) (view_sizes ms)

pub view_count : (m : Module) → m.num_imported_memories ≤ length m.memories → m.num_imported_memories + length (image_memories m) ≡ length m.memories
view_count m low =
    let a = length-map (drop m.num_imported_memories m.memories) image_memory in
    let b = length-drop m.num_imported_memories m.memories in
    omega (arith, a, b)

abbrev pub plan_of : ModuleTranslation → List (List ℕ) → (ℕ → Option ℕ) → MemoryPlan
plan_of mid runtime found = record {
  sizes = defined_sizes mid.module;
  images = images_of mid.module.memory_initialization;
  segments = processed_of mid.memory_init;
  runtime = runtime;
  passive = found;
}

module _ (options : ImageOptions) (old taken mid : ModuleTranslation) (ready : MemoryHalfIsReady old) (rest : SameButSegments old taken)
    (runtime : List (List ℕ)) (found : ℕ → Option ℕ) (is_runtime : runtime ≡ map bytes_of mid.runtime_data ++ passive_bytes old) where
  abbrev IsPlan : Type 0
  IsPlan = IsMemoryPlan options old.module.num_imported_memories (image_memories old.module) (initializers_of old) (passive_bytes old) (plan_of mid runtime found)

  none : length taken.runtime_data ≡ 0
  none = ap (λ (t : ModuleTranslation). length t.runtime_data) rest ∙ ap length ready.no_runtime

  sizes : defined_sizes mid.module ≡ defined_sizes taken.module → defined_sizes mid.module ≡ map size_of (image_memories old.module)
  sizes same = same ∙ ap (λ (t : ModuleTranslation). defined_sizes t.module) rest ∙ view_sizes (drop old.module.num_imported_memories old.module.memories)

  -- the runtime data are those of the memories and of the passive segments
  first : (bytes : List (List ℕ)) → map bytes_of mid.runtime_data ≡ map bytes_of taken.runtime_data ++ bytes → runtime ≡ bytes ++ passive_bytes old
  first bytes own = is_runtime ∙ ap (λ bs. bs ++ passive_bytes old)
      (own ∙ ap (λ bs. bs ++ bytes) (ap (λ (t : ModuleTranslation). map bytes_of t.runtime_data) rest ∙ ap (map bytes_of) ready.no_runtime))

  as_images : (images : List (Option MemoryImage)) → IsStatic options old.module.num_imported_memories (image_memories old.module) (initializers_of old)
      → AreImages options.page (length old.module.memories) (initializers_of old) images → BeginsAsImages options.page images taken mid → IsPlan
  as_images images static are h =
      let in_map : images_of mid.module.memory_initialization ≡ image_map 0 images = h.in_map ∙ ap (λ (n : ℕ). image_map n images) none in
      record {
        sizes = sizes (ap (λ (t : ModuleTranslation). defined_sizes t.module) h.same);
        segments = inl (record {
          static = static;
          images = images;
          are_images = subst (λ (n : ℕ). AreImages options.page n (initializers_of old) images) (sym (view_count old.module ready.imports)) are;
          in_map = in_map;
          in_list = h.in_list ∙ ap (λ (n : ℕ). entries_of 0 (image_map n images)) none ∙ ap (entries_of 0) (sym in_map);
          runtime = first (image_bytes images) h.runtime;
        });
      }

  as_segments : (IsStatic options old.module.num_imported_memories (image_memories old.module) (initializers_of old) → ⊥) → KeepsSegments (initializers_of old) taken mid → IsPlan
  as_segments refused h = record {
    sizes = sizes (ap (λ (t : ModuleTranslation). defined_sizes t.module) h.same);
    segments = inr (record {
      not_static = refused;
      in_map = ap (λ (t : ModuleTranslation). images_of t.module.memory_initialization) h.same
          ∙ ap (λ (t : ModuleTranslation). images_of t.module.memory_initialization) rest ∙ images_of-segmented old.module.memory_initialization ready.segmented;
      in_list = h.in_list ∙ ap (λ (n : ℕ). planned_from n (initializers_of old)) none;
      runtime = first (map (λ s. s.bytes) (initializers_of old)) h.runtime;
    });
  }

  planned : (images : Option (Vec (Option Image))) → AreSized options old images → Begins options.page images (initializers_of old) taken mid → IsPlan
  planned None sized h = as_segments sized.0 h
  planned (Some v) sized h = as_images (view_images v.items) sized.0 sized.1 h

-- the passive segments remain
same_passive : (page_size : ℕ) (images : Option (Vec (Option Image))) (active : List ActiveSegment) (taken mid : ModuleTranslation)
    → Begins page_size images active taken mid → mid.private_parts.passive_data ≡ taken.private_parts.passive_data
same_passive page_size None active taken mid h = ap (λ (t : ModuleTranslation). t.private_parts.passive_data) h.same
same_passive page_size (Some images) active taken mid h = ap (λ (t : ModuleTranslation). t.private_parts.passive_data) h.same

-- there are as many images as memories
pub few_images : (options : ImageOptions) (t : ModuleTranslation) (images : Option (Vec (Option Image))) → length t.module.memories < 2 ^ 30 → AreSized options t images
    → IfSome images (λ v. length v.items < 2 ^ 30)
few_images options t None few sized = tt
few_images options t (Some v) few sized = let count = sized.1.count in let same = length-map v.items (option_map image_of) in omega (arith, count, same, few)

module _ (options : ImageOptions) (old taken mid : ModuleTranslation) (images : Option (Vec (Option Image))) (active : List ActiveSegment)
    (ready : MemoryHalfIsReady old) (sized : AreSized options old images) (rest : SameButSegments old taken) (is : active ≡ initializers_of old)
    (begins : Begins options.page images active taken mid) where
  pub stands : mid.private_parts.passive_data ≡ old.private_parts.passive_data
  stands = same_passive options.page images active taken mid begins ∙ ap (λ (t : ModuleTranslation). t.private_parts.passive_data) rest

  pub planned_sized : (runtime : List (List ℕ)) (found : ℕ → Option ℕ) → runtime ≡ map bytes_of mid.runtime_data ++ passive_bytes old
      → IsMemoryPlan options old.module.num_imported_memories (image_memories old.module) (initializers_of old) (passive_bytes old) (plan_of mid runtime found)
  planned_sized runtime found is_runtime =
      planned options old taken mid ready rest runtime found is_runtime images sized (subst (λ xs. Begins options.page images xs taken mid) is begins)

-- the plan leaves what the segments leave
pub agrees_sized : (options : ImageOptions) (m : Module) (active : List ActiveSegment) (passive : List (List ℕ)) (plan : MemoryPlan) → IsPowerOfTwo options.page
    → IsMemoryPlan options m.num_imported_memories (image_memories m) active passive plan → AgreesOver m.num_imported_memories (defined_sizes m) active plan
agrees_sized options m active passive plan page h =
    subst (λ (ns : List ℕ). AgreesOver m.num_imported_memories ns active plan) (sym (view_sizes (drop m.num_imported_memories m.memories)))
    (agrees options m.num_imported_memories (image_memories m) active passive plan page h)
