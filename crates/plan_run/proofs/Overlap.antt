-- A memory whose image is borrowed until it is written to.
use Rattle.std.proofs.Common.{◌≡◌, ℕ, ◌+◌, ◌*◌, ◌/◌, ◌<◌, ◌≤◌, Bool, true, false, ◌&&◌, List, [], ◌∷◌, length, get_or, replicate, Option, None, Some, ⊎_elim, refl, sym, ◌∙◌, ap, arith}
use Rattle.std.specs.Prelude.{slice_get, unwrap_or, if◌then◌else◌, nat_le, nat_lt}
use Rattle.std.specs.Option.{option_map}
use Rattle.std.proofs.lemmas.Bool.{cases_lt, le-leb, lt-ltb, le-ltb}
use Rattle.module_types.specs.TypeList.{TypeList}
use Rattle.replay_spec.specs.Phases.{Phase, last_item, before_trap, content_of}
use Rattle.replay_spec.specs.Data.{memory_base}
use Rattle.replay_spec.specs.Plan.{MemoryPlan, runtime_bytes}
use Rattle.replay_spec.specs.Values.{offset_over}
use Rattle.wasm_spec.specs.Module.{Expression}
use Rattle.init_plan.specs.declared.translation.ModuleTranslation.{ModuleTranslation}
use Rattle.init_plan.specs.Views.{memory_plan_of}
use Rattle.paged_memory.specs.Memory.{Contents, count_lent, reached, not_lent}
use Rattle.paged_memory.specs.Writing.{written}
use Rattle.plan_run.specs.declared.laid.Imports.{Imports}
use Rattle.plan_run.specs.declared.laid.Laid.{Laid}
use Rattle.plan_run.specs.declared.laid.Way.TheVariants.{Map}
use Rattle.plan_run.specs.Fields.{field_count_in}
use Rattle.plan_run.specs.Finished.{Finished}
use Rattle.plan_run.specs.Laid.{globals_in, data_phase, MemoriesAreLaid, PagesAreLent, LendImages}
use Rattle.plan_run.specs.Limits.{page_size_of}
use Rattle.plan_run.specs.Memories.{bytes_in, image_in, image_pages, is_of_image}
use Rattle.plan_run.specs.Worked.{HasOverlap, IsWritten, OverlapIsSeen}
use Rattle.plan_run.proofs.Begun.{laid_over, base-is}
use Rattle.plan_run.proofs.Given.{none-left}
use Rattle.plan_run.proofs.LentPages.{not-lent-at, count-empty}
use Rattle.plan_run.proofs.Pieces.{pieces-left}
use Rattle.plan_run.proofs.Writing.{written-in}
use Rattle.std.proofs.lemmas.List.{length-replicate}
use Rattle.std.proofs.lemmas.Option.{slice_get-map}

module _ (t : ModuleTranslation) (types : TypeList) (imports : Imports) (laid : Laid) (index : ℕ) (memory after : Contents) (f : Finished t) (has : HasOverlap t index)
    (bytes_laid : MemoriesAreLaid t types Map imports laid) (pages : PagesAreLent t Map (data_phase t types Map imports) imports.memories.items laid.memories.items)
    (counts : LendImages t Map laid.memories.items) (at : slice_get laid.memories.items 0 ≡ Some memory) (long : 18 < length memory.bytes)
    (write : IsWritten 17 (4 ∷ []) memory after) where
  abbrev plan : MemoryPlan
  plan = memory_plan_of t

  abbrev image : List ℕ
  image = runtime_bytes plan index

  abbrev phase : Phase ℕ
  phase = data_phase t types Map imports

  abbrev place_of : Expression → ℕ
  place_of = offset_over (globals_in t types imports) (field_count_in t types)

  is-image : image_in Map plan 0 ≡ Some (0, image)
  is-image = ap (λ (o : Option (Option (ℕ × ℕ))). option_map (λ (i : ℕ × ℕ). (i.0, runtime_bytes plan i.1)) (unwrap_or o None)) has.image

  size-is : page_size_of t ≡ 4096
  size-is = ap (λ (o : Option ℕ). unwrap_or o 4096) has.page

  none : phase.pieces ≡ []
  none = pieces-left place_of plan Map (bytes_in imports.memories.items) ∙ none-left place_of plan plan.segments (f.memories.images 0 (0, index) has.image).alone

  -- the image is seen
  found : slice_get (bytes_in laid.memories.items) 0 ≡ Some memory.bytes
  found = slice_get-map (λ (m : Contents). m.bytes) laid.memories.items 0 ∙ ap (option_map (λ (m : Contents). m.bytes)) at

  based : (place : ℕ) → phase.base 0 place ≡ laid_over (Some (0, image)) 0 place (memory_base (bytes_in imports.memories.items) 0 place)
  based place =
      base-is plan Map place_of (bytes_in imports.memories.items) 0 place
      ∙ ap (λ (o : Option (ℕ × List ℕ)). laid_over o 0 place (memory_base (bytes_in imports.memories.items) 0 place)) is-image

  byte : (place : ℕ) → place < length memory.bytes → slice_get memory.bytes place ≡ Some (laid_over (Some (0, image)) 0 place (memory_base (bytes_in imports.memories.items) 0 place))
  byte place low =
      let size = bytes_laid.sizes 0 memory.bytes found in
      bytes_laid.items 0 place memory.bytes found (omega (arith, size, low))
      ∙ ap (λ ps. Some (last_item 0 place (phase.base 0 place) (before_trap phase.sizes ps))) none
      ∙ ap Some (based place)

  -- its page is borrowed
  one : count_lent memory.lent ≡ 1
  one =
      counts 0 memory at (omega (arith, has.imports))
      ∙ ap (λ n. image_pages n (image_in Map plan 0)) size-is
      ∙ ap (image_pages 4096) is-image
      ∙ ap (λ n. n / 4096) has.size

  page-is : memory.page ≡ 4096
  page-is = (pages.defined 0 memory at (omega (arith, has.imports))).page_size ∙ size-is

  page-lent : (k : ℕ) → get_or memory.lent k false ≡ (nat_le 0 (k * 4096) && nat_lt (k * 4096) (0 + length image))
  page-lent k =
      (pages.defined 0 memory at (omega (arith, has.imports))).lent k
      ∙ ap (λ n. is_of_image n (image_in Map plan 0) k) size-is
      ∙ ap (λ (o : Option (ℕ × List ℕ)). is_of_image 4096 o k) is-image

  -- and borrowed no more
  lent-is : after.lent ≡ not_lent 0 1 memory.lent
  lent-is = write.lent ∙ ap (λ n. not_lent (17 / n) (reached n 17 (4 ∷ [])) memory.lent) page-is

  none-lent : (k : ℕ) → get_or after.lent k false ≡ false
  none-lent k =
      ap (λ (l : List Bool). get_or l k false) lent-is ∙ not-lent-at 0 1 1 k memory.lent refl
      ∙ ⊎_elim
      (λ (low : k < 1). ap (λ b. if b && nat_lt k 1 then false else get_or memory.lent k false) (le-leb 0 k (omega arith))
      ∙ ap (λ b. if b then false else get_or memory.lent k false) (lt-ltb k 1 low))
      (λ (high : 1 ≤ k). ap (λ b. if b && nat_lt k 1 then false else get_or memory.lent k false) (le-leb 0 k (omega arith))
      ∙ ap (λ b. if b then false else get_or memory.lent k false) (le-ltb k 1 high)
      ∙ page-lent k ∙ ap (λ b. b && nat_lt (k * 4096) (0 + length image)) (le-leb 0 (k * 4096) (omega arith))
      ∙ le-ltb (k * 4096) (0 + length image) (omega (arith, has.size, high)))
      (cases_lt k 1)

  pub overlap-seen : OverlapIsSeen t index memory after
  overlap-seen = record {
    first = byte 16 (omega (arith, long)) ∙ ap (λ (o : Option ℕ). Some (unwrap_or o (memory_base (bytes_in imports.memories.items) 0 16))) has.first;
    second = byte 17 (omega (arith, long)) ∙ ap (λ (o : Option ℕ). Some (unwrap_or o (memory_base (bytes_in imports.memories.items) 0 17))) has.second;
    third = byte 18 long ∙ ap (λ (o : Option ℕ). Some (unwrap_or o (memory_base (bytes_in imports.memories.items) 0 18))) has.third;
    lent = one;
    second_after = ap (λ (l : List ℕ). slice_get l 17) write.bytes ∙ written-in 17 (4 ∷ []) memory.bytes (omega (arith, long)) 0 (omega arith);
    lent_after = count-empty after.lent none-lent;
    planned = has.second;
  }
