-- What a plan costs at most.
use Rattle.std.proofs.Common.{◌≡◌, ◌≤◌, ◌<◌, ◌+◌, ◌-◌, ◌*◌, ◌⊎◌, ◌∙◌, ℕ, List, [], ◌∷◌, ◌++◌, length, map, drop, Option, Some, None, sum_by, slice_get, max, refl, sym, ap, subst, arith, length-append}
use Rattle.std.specs.List.{filter_map, flat_map, enumerate_from}
use Rattle.std.proofs.Math.Logic.{⊎_elim}
use Rattle.std.proofs.lemmas.List.{length-map, length-drop}
use Rattle.std.proofs.lemmas.List.FromFn.{length-enumerate_from}
use Rattle.std.proofs.lemmas.List.Sums.{sum_by-append, sum_by-cons}
use Rattle.wasm_spec.specs.Module as plain
use Rattle.wasm_spec.specs.Module.{Segment, TableDef, GlobalDef}
use Rattle.wasm_spec.specs.Grammar.{header}
use Rattle.rule_spec.specs.Rules.{Keeps}
use Rattle.wasm_index.specs.Index.{number_of}
use Rattle.wasm_types.specs.EntityViews.{global_of, table_of}
use Rattle.wasm_types.specs.Memories.{memory_of}
use Rattle.replay_spec.specs.Data.{ActiveSegment}
use Rattle.replay_spec.specs.Held.{held_segments}
use Rattle.replay_spec.specs.Plan.{MemoryPlan}
use Rattle.replay_spec.specs.Startup.{passive_elements}
use Rattle.replay_spec.specs.Images.{ImageMemory, image_memory_of, size_of, MemoryImage, image_bytes, bytes_on, data_size, written_on, IsImage, IsPlaced, PlansImages, PlansSegments}
use Rattle.replay_spec.proofs.Placed.{all-at, covers-nonzero}
use Rattle.form_reader.specs.Views.{body_of}
use Rattle.form_reader.proofs.Entries.{sections_few, imported_few, total_members}
use Rattle.init_plan.specs.declared.translation.ModuleTranslation.{ModuleTranslation}
use Rattle.init_plan.specs.Views.{memory_plan_of}
use Rattle.init_plan.specs.Images.{HasTightImages}
use Rattle.init_plan.specs.Tables.{plan_of_tables}
use Rattle.module_environ.specs.Readable.{IsReadable}
use Rattle.module_sections.specs.Initialisers.{view_segment, view_items, active_items}
use Rattle.module_types.specs.Views.{interned_of}
use Rattle.module_types.proofs.NamingEarlier.{keeps-earlier}
use Rattle.interned_types.specs.Types.{look_up_in}
use Rattle.interned_types.proofs.DeclaredLooks.{listed-long}
use Rattle.plan_text.specs.declared.plan.Plan.{Plan}
use Rattle.translate.specs.Options.{InitOptions, Options, images, passive_bytes, startup_by, runs}
use Rattle.translate.specs.Initialised.{IsInitialised, OnlyInitChanges}
use Rattle.translate.specs.Planned.{IsPlanned}
use Rattle.translate.specs.Costs.{entries_of, most_data, CostsAtMost}
use Rattle.translate.proofs.FewTypes.{few-types}
use Rattle.translate.proofs.DataBytes.{data-few}
use Rattle.translate.proofs.ImagesTotal.{images-total}
use Rattle.translate.proofs.EntryCounts.{kinds-few, elements-few, segments-few, bytes-few}
use Rattle.translate.proofs.CellCounts.{cells-small}

module _ (i : InitOptions) (bytes : List ℕ) (m : plain.Module) (read : IsReadable bytes m) (keeps : Keeps m) (t : ModuleTranslation) (is : IsInitialised i bytes m t) where
  abbrev old : ModuleTranslation
  old = is.rest.before

  abbrev same : OnlyInitChanges old t
  same = is.rest.same

  -- ---- entries

  types : length t.module.types ≡ length (plain.types m)
  types = ap (λ (x : ModuleTranslation). length x.module.types) same
      ∙ listed-long m (keeps-earlier m keeps) old.module.types is.rest.translation.types.declared

  functions : length t.module.functions ≡ length (plain.functions m)
  functions = ap (λ (x : ModuleTranslation). length x.module.functions) same ∙ ap length is.rest.translation.sections.escapes.functions
      ∙ length-map (enumerate_from 0 (plain.functions m)) _ ∙ length-enumerate_from 0 (plain.functions m)

  tables : length t.module.tables ≡ length (plain.tables m)
  tables = ap (λ (x : ModuleTranslation). length x.module.tables) same ∙ sym (length-map old.module.tables table_of)
      ∙ ap length is.rest.translation.sections.entities.tables ∙ length-map (plain.tables m) _

  memories : length t.module.memories ≡ length (plain.memories m)
  memories = ap (λ (x : ModuleTranslation). length x.module.memories) same ∙ ap length is.rest.translation.sections.entities.memories
      ∙ length-map (plain.memories m) memory_of

  globals : length t.module.globals ≡ length (plain.globals m)
  globals = ap (λ (x : ModuleTranslation). length x.module.globals) same ∙ sym (length-map old.module.globals global_of)
      ∙ ap length is.rest.translation.sections.entities.globals ∙ length-map (plain.globals m) _

  tags : length t.module.tags ≡ length (plain.tags m)
  tags = ap (λ (x : ModuleTranslation). length x.module.tags) same ∙ ap length is.rest.translation.types.tags ∙ length-map (plain.tags m) _

  exports : length t.module.exports.entries ≡ length (flat_map plain.exports_of_section m)
  exports = ap (λ (x : ModuleTranslation). length x.module.exports.entries) same ∙ sym (length-map old.module.exports.entries _)
      ∙ ap length is.rest.translation.sections.entities.exports ∙ length-map (flat_map plain.exports_of_section m) _

  active : length t.table_initialization.segments.items ≤ length (active_items (look_up_in m) (flat_map plain.elements_of_section m))
  active =
      let left = ap length is.rest.left.segments in
      let cut = length-drop is.rest.left.taken old.table_initialization.segments.items in
      let all = sym (length-map old.table_initialization.segments.items view_segment) ∙ ap length is.rest.translation.sections.elements.active in
      omega (arith, left, cut, all)

  passive : length t.passive_elements ≡ length (passive_elements (flat_map plain.elements_of_section m))
  passive = ap (λ (x : ModuleTranslation). length x.passive_elements) same ∙ sym (length-map old.passive_elements view_items)
      ∙ ap length is.rest.translation.sections.elements.passive ∙ length-map (passive_elements (flat_map plain.elements_of_section m)) _

  bodies : length t.function_body_inputs ≡ length (flat_map plain.bodies_of_section m)
  bodies = ap (λ (x : ModuleTranslation). length x.function_body_inputs) same ∙ sym (length-map old.function_body_inputs _)
      ∙ ap length is.rest.translation.code.bodies

  within : length read.spelled.body ≤ length bytes
  within = omega (arith, ap length read.spelled.parts, length-append header read.spelled.body)

  entries : entries_of t ≤ length bytes
  entries =
      let few = sections_few m 8 0 read.spelled.body read.spelled.are_sections in
      let elements = elements-few (look_up_in m) (flat_map plain.elements_of_section m) in
      omega (
        arith,
        few,
        within,
        total_members (plain.types m),
        types,
        functions,
        tables,
        memories,
        globals,
        tags,
        exports,
        active,
        passive,
        bodies,
        elements,
        kinds-few (plain.imports m),
        length-append (plain.imported_of plain.function_import m) (flat_map plain.function_types_of_section m),
        length-append (plain.imported_of plain.table_import m) (map (λ (d : TableDef). d.type) (flat_map plain.tables_of_section m)),
        length-map (flat_map plain.tables_of_section m) (λ (d : TableDef). d.type),
        length-append (plain.imported_of plain.memory_import m) (flat_map plain.memories_of_section m),
        length-append (plain.imported_of plain.global_import m) (map (λ (d : GlobalDef). d.type) (flat_map plain.globals_of_section m)),
        length-map (flat_map plain.globals_of_section m) (λ (d : GlobalDef). d.type),
        length-append (plain.imported_of plain.tag_import m) (flat_map plain.tags_of_section m),
      )

  -- ---- runtime data

  abbrev plan : MemoryPlan
  plan = memory_plan_of t

  abbrev imports : ℕ
  imports = length (plain.imported_memories m)

  abbrev defined : List ImageMemory
  defined = map image_memory_of (plain.defined_memories m)

  abbrev segments : List ActiveSegment
  segments = held_segments m

  abbrev most : ℕ
  most = i.max_image + 2 * i.page_size

  bytes-map : (ss : List ActiveSegment) → sum_by length (map (λ (s : ActiveSegment). s.bytes) ss) ≡ data_size ss
  bytes-map [] = refl
  bytes-map (s ∷ ss) =
      let others = bytes-map ss in
      omega (
        arith,
        others,
        sum_by-cons (λ (b : List ℕ). length b) s.bytes (map (λ (x : ActiveSegment). x.bytes) ss),
        sum_by-cons (λ (x : ActiveSegment). length x.bytes) s ss,
      )

  data' : sum_by (λ (s : Segment). length s.bytes) (plain.segments m) ≤ length bytes
  data' = data-few bytes m read.spelled

  both : sum_by length (map (λ (s : ActiveSegment). s.bytes) segments) + sum_by length (passive_bytes m) ≡ sum_by (λ (s : Segment). length s.bytes) (plain.segments m)
  both = bytes-few 0 (plain.segments m)

  -- an image is of a defined memory, and is short
  module _ (images-are : PlansImages (images i) imports defined segments (passive_bytes m) plan) where
    bounded : (j : ℕ) (image : MemoryImage) → slice_get images-are.images j ≡ Some (Some image)
        → (imports ≤ j) × (length image.bytes ≤ 2 * data_size (bytes_on j segments) + most)
    bounded j image at =
        let it : IsImage i.page_size (written_on segments j) image = images-are.are_images.each j (Some image) at in
        let c = covers-nonzero segments j it.first it.is_first.nonzero in
        let placed : IsPlaced imports defined c.segment = all-at (IsPlaced imports defined) segments c.index c.segment images-are.static.placed c.is_segment in
        let low : imports ≤ j = omega (arith, placed.defined, c.on) in
        let back : imports + (j - imports) ≡ j = omega (arith, low) in
        let home : slice_get defined (j - imports) ≡ Some placed.memory = ap (λ n. slice_get defined (n - imports)) (sym c.on) ∙ placed.is_memory in
        let there = ap (slice_get images-are.images) back ∙ at in
        let tight = is.also.tight images-are (j - imports) placed.memory image home there in
        let short = subst (λ (n : ℕ). length image.bytes < max (2 * data_size (bytes_on n segments)) i.max_image + 2 * i.page_size) back tight.short in
        (low, omega (arith, short))

    image-count : (xs : List (Option MemoryImage)) → length (image_bytes xs) ≤ length xs
    image-count [] = omega arith
    image-count (None ∷ xs) = let rest = image-count xs in omega (arith, rest)
    image-count (Some x ∷ xs) = let rest = image-count xs in omega (arith, rest)

    image-entries : length plan.runtime ≤ length bytes
    image-entries =
        let few = sections_few m 8 0 read.spelled.body read.spelled.are_sections in
        let n = image-count images-are.images in
        let imported = imported_few plain.memory_import (plain.imports m) in
        omega (
          arith,
          few,
          within,
          n,
          imported,
          ap length images-are.runtime,
          length-append (image_bytes images-are.images) (passive_bytes m),
          images-are.are_images.count,
          length-map (plain.defined_memories m) image_memory_of,
          segments-few 0 (plain.segments m),
        )

    image-size : sum_by length plan.runtime ≤ most_data i (length bytes) (length defined)
    image-size =
        let total = images-total imports most segments (length defined) images-are.images images-are.are_images.count bounded in
        omega (
          arith,
          total,
          data',
          both,
          bytes-map segments,
          ap (sum_by length) images-are.runtime,
          sum_by-append (λ (b : List ℕ). length b) (image_bytes images-are.images) (passive_bytes m),
        )

  module _ (kept-are : PlansSegments (images i) imports defined segments (passive_bytes m) plan) where
    segment-entries : length plan.runtime ≤ length bytes
    segment-entries =
        let few = sections_few m 8 0 read.spelled.body read.spelled.are_sections in
        omega (
          arith,
          few,
          within,
          ap length kept-are.runtime,
          length-append (map (λ (s : ActiveSegment). s.bytes) segments) (passive_bytes m),
          segments-few 0 (plain.segments m),
        )

    segment-size : sum_by length plan.runtime ≤ most_data i (length bytes) (length defined)
    segment-size =
        omega (
          arith,
          data',
          both,
          ap (sum_by length) kept-are.runtime,
          sum_by-append (λ (b : List ℕ). length b) (map (λ (s : ActiveSegment). s.bytes) segments) (passive_bytes m),
        )

  count : length plan.runtime ≤ length bytes
  count = ⊎_elim image-entries segment-entries is.memories.plan.segments

  sizes : length plan.sizes ≡ length defined
  sizes = ap length is.memories.plan.sizes ∙ length-map defined size_of

  size : sum_by length plan.runtime ≤ most_data i (length bytes) (length plan.sizes)
  size = rw sizes (⊎_elim image-size segment-size is.memories.plan.segments)

pub costs : (o : Options) (bytes : List ℕ) (plan : Plan) → IsPlanned o bytes plan → CostsAtMost o.init bytes plan
costs o bytes plan is =
    let t = plan.translation in
    let whole = is.planned.translation in
    let types = is.planned.types.types in
    record {
      entries = entries o.init bytes is.meaning is.read is.keeps t whole;
      types = let few = few-types bytes is.meaning is.read (runs (startup_by is.meaning (memory_plan_of t) (plan_of_tables t))) in
          omega (arith, few, ap length types, length-map plan.types.types interned_of);
      data_count = count o.init bytes is.meaning is.read is.keeps t whole;
      data_bytes = size o.init bytes is.meaning is.read is.keeps t whole;
      cells = cells-small _ _ _ _ (plan_of_tables t) whole.tables;
    }
