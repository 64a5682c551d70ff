-- What the plan of a translation's memories promises of the module whose lists the translation
-- holds.
use Rattle.std.proofs.Common.{◌≡◌, ◌<◌, ◌-◌, ◌^◌, ℕ, List, length, map, None, refl, ap}
use Rattle.std.specs.Prelude.{Contains, slice_get, sum_by}
use Rattle.wasm_spec.specs.Module.{Module, imported_memories, defined_memories, segments}
use Rattle.replay_spec.specs.Data.{ActiveSegment}
use Rattle.replay_spec.specs.Held.{held_segments}
use Rattle.replay_spec.specs.Images.{ImageMemory, image_memory_of, IsStatic, IsMemoryPlan}
use Rattle.replay_spec.specs.Plan.{MemoryPlan, ranges_from}
use Rattle.init_plan.specs.declared.translation.ModuleTranslation.{ModuleTranslation}
use Rattle.init_plan.specs.Views.{initializers_of, passive_data_of, memory_plan_of, ranges_of, FindsInOrder, IsProcessed}
use Rattle.init_plan.specs.Views as held
use Rattle.init_plan.specs.Images.{image_memories, BeginsByRule, HasTightImages, HasWholeRanges, HasRuntimeSize, WillHaveRuntimeSize}
use Rattle.init_plan.specs.Held.{HoldsMemories}
use Rattle.init_plan.specs.Tables.{OnlyTableInitChanges}
use Rattle.module_sections.specs.Initialisers.{passive_data_from}
use Rattle.translate.specs.Options.{InitOptions, images, passive_bytes, HasDataSize}
use Rattle.rule_spec.specs.Rules.{Keeps}
use Rattle.translate.specs.Also.{AlsoHolds}
use Rattle.translate.specs.Initialised.{InitialisesMemories}
use Rattle.translate.proofs.EqualTypes.{told-apart}
use Rattle.translate.proofs.Segments.{finds}

-- passive segments are found at the last of the runtime data
abbrev pub IsFoundLast : MemoryPlan → List (ℕ × List ℕ) → Type 0
IsFoundLast plan ps = FindsInOrder plan.runtime plan.passive (length plan.runtime - length ps) ps

-- a translation holds the memories and data segments of the module
pub record HoldsData (m : Module) (old : ModuleTranslation) : Type 0 where
  pub holds : HoldsMemories m old
  pub memories : image_memories old.module ≡ map image_memory_of (defined_memories m)
  pub passive : passive_data_of old ≡ passive_data_from 0 (segments m)

-- what the plan of memories promises
pub record MemoriesTell (i : InitOptions) (old mid : ModuleTranslation) : Type 0 where
  pub planned : IsMemoryPlan (images i) old.module.num_imported_memories (image_memories old.module) (initializers_of old) (held.passive_bytes old) (memory_plan_of mid)
  pub begins : BeginsByRule (images i) old mid
  pub processed : IsProcessed mid.memory_init
  pub tight : HasTightImages (images i) old.module.num_imported_memories (image_memories old.module) (initializers_of old) (held.passive_bytes old) (memory_plan_of mid)
  pub ranges : ranges_of mid.module ≡ ranges_from 0 (map length (memory_plan_of mid).runtime)
  pub whole_ranges : HasWholeRanges i.page_size (memory_plan_of mid).images (ranges_of mid.module)
  pub found : IsFoundLast (memory_plan_of mid) (passive_data_of old)
  pub others : (index : ℕ) → ¬ Contains (map (λ p. p.0) (passive_data_of old)) index → (memory_plan_of mid).passive index ≡ None
  pub fits : sum_by length (memory_plan_of mid).runtime < 2 ^ 32

module _ (i : InitOptions) (m : Module) (old : ModuleTranslation) (has : HoldsData m old) where
  passive_same : held.passive_bytes old ≡ passive_bytes m
  passive_same = ap (map (λ (p : ℕ × List ℕ). p.1)) has.passive

  to_module : (P : ℕ → List ImageMemory → List ActiveSegment → List (List ℕ) → Type 0)
      → P old.module.num_imported_memories (image_memories old.module) (initializers_of old) (held.passive_bytes old)
      → P (length (imported_memories m)) (map image_memory_of (defined_memories m)) (held_segments m) (passive_bytes m)
  to_module P h = rw (← has.holds.imports, ← has.memories, ← has.holds.active, ← passive_same) h

  -- the runtime data of both have the same sizes
  pub data_size : (P : ℕ → Type 0) → WillHaveRuntimeSize (images i) old P → HasDataSize i m P
  data_size P h = to_module (λ n ms active passive. HasRuntimeSize (images i) n ms active passive P) h

  module _ (mid new : ModuleTranslation) (tell : MemoriesTell i old mid) where
    -- the plan of the tables keeps it
    pub initialises_memories : OnlyTableInitChanges mid new → InitialisesMemories i m new
    initialises_memories same = rw same (record {
      plan = to_module (λ n ms ss ps. IsMemoryPlan (images i) n ms ss ps (memory_plan_of mid)) tell.planned;
      segmented = λ is. (
        λ h. (tell.begins.segmented is).0 (rw (has.memories, has.holds.imports, has.holds.active) h),
        (tell.begins.segmented is).1,
      );
      imaged = λ is. (to_module (λ n ms ss ps. IsStatic (images i) n ms ss) (tell.begins.images is).0, (tell.begins.images is).1);
      processed = tell.processed;
      ranges = tell.ranges;
      fits = tell.fits;
      in_order = rw has.passive at tell.found;
      others = λ k none. tell.others k (rw has.passive none);
    })

    -- so do its images
    pub memories_also : Keeps m → OnlyTableInitChanges mid new → AlsoHolds i m new
    memories_also keeps same = rw same (record {
      equal_types = told-apart m keeps;
      tight = to_module (λ n ms ss ps. HasTightImages (images i) n ms ss ps (memory_plan_of mid)) tell.tight;
      whole_ranges = tell.whole_ranges;
      passive = λ index. finds (memory_plan_of mid) (segments m) _ (rw has.passive at tell.found)
          (λ k none. tell.others k (rw has.passive none)) index (slice_get (segments m) index) refl;
    })
