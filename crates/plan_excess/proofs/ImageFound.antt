-- The memory that a translation names is that of its module.
use Rattle.std.proofs.Common.{◌≡◌, ◌^◌, ◌<◌, ◌≤◌, ℕ, List, length, map, ap, subst, arith}
use Rattle.std.specs.Prelude.{sum_by}
use Rattle.std.proofs.lemmas.List.{length-map}
use Rattle.wasm_spec.specs.Module.{Module, memories, defined_memories, segments}
use Rattle.replay_spec.specs.Images.{image_memory_of}
use Rattle.module_sections.specs.Initialisers.{passive_data_from}
use Rattle.wasm_index.specs.Index.{index_of}
use Rattle.wasm_types.specs.Memories.{memory_of}
use Rattle.module_types.specs.Builder.{BuilderState}
use Rattle.init_plan.specs.declared.translation.ModuleTranslation.{ModuleTranslation}
use Rattle.init_plan.specs.Views.{initializers_of, passive_bytes, passive_data_of, data_total}
use Rattle.init_plan.specs.Images.{image_memories, HasRuntimeSize, WillHaveRuntimeSize}
use Rattle.form_reader.proofs.SectionLaws.{module_once}
use Rattle.module_environ.specs.Translated.{IsTranslated}
use Rattle.rule_breaks.specs.declared.lists.ModuleList.TheVariants as list
use Rattle.rule_breaks.specs.Listed.{IsListed}
use Rattle.translate.specs.Options.{InitOptions, images}
use Rattle.translate.specs.Planned.{KeepsAnd, HasMuchData}
use Rattle.init_plan.proofs.Holding.{memories_same}
use Rattle.translate.proofs.DataBytes.{data-few}
use Rattle.translate.proofs.EntryCounts.{bytes-few}
use Rattle.memory_images.specs.Past.{ImagesPassAt}
use Rattle.plan_excess.specs.Past.{PassesWithImage}

module _ (i : InitOptions) {bytes : List ℕ} {t : ModuleTranslation} {b : BuilderState} (told : IsTranslated i.tunables (index_of 0) 0 bytes t b) where
  abbrev m : Module
  m = told.meaning

  memories-are : image_memories t.module ≡ map image_memory_of (defined_memories m)
  memories-are = memories_same m t told.ready.holds_memories

  passive-are : passive_data_of t ≡ passive_data_from 0 (segments m)
  passive-are = told.translation.sections.data_segments.passive

  -- the segments have fewer bytes than the input
  pub data-fits : data_total t < 2 ^ 32
  data-fits =
      let has = told.ready.holds_memories in
      rw (has.active, passive-are) (omega (arith, bytes-few 0 (segments m), data-few bytes m told.read.spelled, told.read.short))

  -- so it is images that pass
  pub images-pass : KeepsAnd bytes (HasMuchData i) → WillHaveRuntimeSize (images i) t (λ size. 2 ^ 32 ≤ size)
  images-pass kept =
      let has = told.ready.holds_memories in
      let much = subst (HasMuchData i) (module_once bytes kept.meaning m kept.read.spelled told.read.spelled) kept.fact in
      coe 1 0 (j. HasRuntimeSize (images i) (has.imports j) (memories-are j) (has.active j) (map (λ (p : ℕ × List ℕ). p.1) (passive-are j))
      (λ size. 2 ^ 32 ≤ size)) much

  pub image-found : (memory : ℕ) → memory < length t.module.memories
      → ImagesPassAt (images i) t.module.num_imported_memories (image_memories t.module) (initializers_of t) (sum_by length (passive_bytes t)) memory
      → KeepsAnd bytes (λ m. PassesWithImage i m memory × IsListed m list.Memories memory)
  image-found memory below passes =
      let has = told.ready.holds_memories in
      let at : PassesWithImage i m memory = rw (← has.imports, ← memories-are, ← has.active, ← passive-are) passes in
      record {
        meaning = m;
        read = told.read;
        keeps = told.keeps;
        fact = (at, omega (arith, below, ap length has.memories, length-map (memories m) memory_of));
      }
