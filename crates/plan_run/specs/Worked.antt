-- A worked example: an image that holds 1, 9, 3 from 16 on is borrowed until a byte is written over
-- it.
use Rattle.std.specs.Prelude.{◌≡◌, ℕ, ◌/◌, ◌<◌, List, [], ◌∷◌, length, Some, slice_get}
use Rattle.module_types.specs.TypeList.{TypeList}
use Rattle.replay_spec.specs.Plan.{runtime_bytes}
use Rattle.init_plan.specs.declared.translation.ModuleTranslation.{ModuleTranslation}
use Rattle.init_plan.specs.Views.{memory_plan_of}
use Rattle.paged_memory.specs.Memory.{Contents, count_lent, reached, not_lent}
use Rattle.paged_memory.specs.Writing.{written}
use Rattle.plan_run.specs.declared.laid.Imports.{Imports}
use Rattle.plan_run.specs.declared.laid.Laid.{Laid}
use Rattle.plan_run.specs.declared.laid.Way.TheVariants.{Map}
use Rattle.plan_run.specs.Finished.{Finished}
use Rattle.plan_run.specs.Laid.{data_phase, MemoriesAreLaid, PagesAreLent, LendImages}

-- the first memory is a defined one, and begins with an image of one page of 4096 bytes, in which
-- 1, 9, 3 begin at 16
pub record HasOverlap (t : ModuleTranslation) (index : ℕ) : Type 0 where
  pub imports : t.module.num_imported_memories ≡ 0
  pub page : t.data_align ≡ Some 4096
  pub image : slice_get (memory_plan_of t).images 0 ≡ Some (Some (0, index))
  pub size : length (runtime_bytes (memory_plan_of t) index) ≡ 4096
  pub first : slice_get (runtime_bytes (memory_plan_of t) index) 16 ≡ Some 1
  pub second : slice_get (runtime_bytes (memory_plan_of t) index) 17 ≡ Some 9
  pub third : slice_get (runtime_bytes (memory_plan_of t) index) 18 ≡ Some 3

-- what `write` promises once it has succeeded
pub record IsWritten (at : ℕ) (items : List ℕ) (old new : Contents) : Type 0 where
  pub bytes : new.bytes ≡ written at items old.bytes
  pub page : new.page ≡ old.page
  pub lent : new.lent ≡ not_lent (at / old.page) (reached old.page at items) old.lent

-- the bytes are those of the image, whose page is borrowed; with a byte written over it no page is,
-- and the image is what it was
pub record OverlapIsSeen (t : ModuleTranslation) (index : ℕ) (memory after : Contents) : Type 0 where
  pub first : slice_get memory.bytes 16 ≡ Some 1
  pub second : slice_get memory.bytes 17 ≡ Some 9
  pub third : slice_get memory.bytes 18 ≡ Some 3
  pub lent : count_lent memory.lent ≡ 1
  pub second_after : slice_get after.bytes 17 ≡ Some 4
  pub lent_after : count_lent after.lent ≡ 0
  pub planned : slice_get (runtime_bytes (memory_plan_of t) index) 17 ≡ Some 9

-- so it is for each run of such a plan, with images borrowed
abbrev pub OverlapLaw : ModuleTranslation → TypeList → Imports → Laid → ℕ → Contents → Contents → Type 0
OverlapLaw t types imports laid index memory after = Finished t → HasOverlap t index → MemoriesAreLaid t types Map imports laid
    → PagesAreLent t Map (data_phase t types Map imports) imports.memories.items laid.memories.items → LendImages t Map laid.memories.items
    → slice_get laid.memories.items 0 ≡ Some memory → 18 < length memory.bytes → IsWritten 17 (4 ∷ []) memory after → OverlapIsSeen t index memory after
