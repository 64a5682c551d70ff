-- The lists of a planned translation are no longer than those of its module.
use Rattle.std.proofs.Common.{◌≡◌, ◌∙◌, ◌≤◌, ◌+◌, ℕ, suc, false, List, [], ◌∷◌, ◌++◌, cond, length, map, get_or, sum_by, Option, Some, None, refl, sym, ap, arith, length-append}
use Rattle.std.specs.Prelude.{count_by, is_some, slice_get, unwrap_or}
use Rattle.std.specs.List.{enumerate_from, flat_map}
use Rattle.std.specs.Option.{option_map, option_and_then}
use Rattle.std.proofs.lemmas.List.{length-map, length-drop}
use Rattle.std.proofs.lemmas.List.FromFn.{length-enumerate_from}
use Rattle.std.proofs.lemmas.List.Sums.{sum_by-cons}
use Rattle.wasm_spec.specs.Module as plain
use Rattle.wasm_spec.specs.Module.{Segment, TableDef, GlobalDef}
use Rattle.rule_spec.specs.Rules.{Keeps}
use Rattle.replay_spec.specs.Data.{ActiveSegment, active_segments}
use Rattle.replay_spec.specs.Held.{held_segment, held_segments}
use Rattle.replay_spec.specs.Images.{image_memory_of}
use Rattle.replay_spec.specs.Plan.{MemoryPlan, ranges_from}
use Rattle.replay_spec.specs.Globals.{simple_of, kept_of}
use Rattle.replay_spec.specs.Startup.{passive_elements}
use Rattle.wasm_index.specs.declared.index.Index.{Index}
use Rattle.wasm_index.specs.declared.spaces.RuntimeDataSpace.{RuntimeDataSpace}
use Rattle.wasm_index.specs.Index.{number_of}
use Rattle.wasm_types.specs.EntityViews.{table_of}
use Rattle.wasm_module.specs.declared.memory_initialization.MemoryInitialization.{MemoryInitialization}
use Rattle.wasm_module.specs.declared.memory_initialization.MemoryInitialization.TheVariants as initialization
use Rattle.module_types.proofs.NamingEarlier.{keeps-earlier}
use Rattle.init_plan.specs.declared.translation.MemoryInit.{MemoryInit}
use Rattle.init_plan.specs.declared.translation.MemoryInit.TheVariants as init
use Rattle.init_plan.specs.declared.translation.ModuleTranslation.{ModuleTranslation}
use Rattle.init_plan.specs.Views.{images_of, planned_segment_of, processed_of, memory_plan_of}
use Rattle.module_sections.specs.Entities.{imports_after, resolved_import, resolved_export}
use Rattle.module_sections.specs.Escapes.{AreSignatures}
use Rattle.init_plan.specs.Held.{simple_global_of}
use Rattle.module_sections.specs.Initialisers.{initialisers, view_initialiser, view_items, view_segment, active_items, passive_data_from}
use Rattle.interned_types.specs.Types.{look_up_in}
use Rattle.interned_types.proofs.DeclaredLooks.{listed-long}
use Rattle.translate.specs.Also.{Finds, passive_bytes_of}
use Rattle.translate.specs.Initialised.{IsInitialised}
use Rattle.translate.specs.Options.{InitOptions, images, passive_bytes}
use Rattle.plan_laws.specs.TextCosts.{images_in, segments_in}
use Rattle.plan_laws.proofs.AscendingCount.{ascending-few}
use Rattle.translate.proofs.EntryCounts.{elements-few}
use Rattle.plan_laws.proofs.EntryKinds.{segments-few}
use Rattle.plan_laws.proofs.MemoryCounts.{IsFew, plan-few}
use Rattle.plan_laws.proofs.Rest.{HasRest, has-rest}
use Rattle.plan_laws.proofs.SumLaws.{kept-few}

imports-long : (before is : List plain.Import) → length (imports_after before is) ≡ length is
imports-long before [] = refl
imports-long before (i ∷ is) = omega (arith, imports-long (before ++ i ∷ []) is)

signatures-few : (escaping types signatures : List ℕ) → AreSignatures escaping types signatures → length signatures ≤ length escaping
signatures-few escaping types signatures s = omega (
  arith,
  ascending-few signatures (map (λ (function : ℕ). get_or types function 0) escaping) s.ascend (λ k has. (s.exact k).0 has),
  length-map escaping (λ (function : ℕ). get_or types function 0),
)

ranges-long : (start : ℕ) (ns : List ℕ) → length (ranges_from start ns) ≡ length ns
ranges-long start [] = refl
ranges-long start (n ∷ ns) = omega (arith, ranges-long (start + n) ns)

images-same : (m : MemoryInitialization) → length (images_in m) ≡ length (images_of m)
images-same initialization.Segmented = refl
images-same (initialization.Static images) = sym (length-map images _)

segments-same : (m : MemoryInit) → length (segments_in m) ≡ length (processed_of m)
segments-same (init.Unprocessed segments) = refl
segments-same (init.Processed segments) = sym (length-map segments.items planned_segment_of)

-- ---- where passive segments are found

abbrev Places : Type 0
Places = List (Option (Index RuntimeDataSpace))

-- what places have is found of segments
abbrev AreFound : List (List ℕ) → Option (Index RuntimeDataSpace) → Places → List Segment → Type 0
AreFound runtime default places ss =
    (i : ℕ) → Finds runtime (option_map number_of (unwrap_or (slice_get places i) default)) (option_and_then passive_bytes_of (slice_get ss i))

module _ (runtime : List (List ℕ)) (default : Option (Index RuntimeDataSpace)) where
  not-there : (x : Option (Index RuntimeDataSpace)) → Finds runtime (option_map number_of x) None → is_some x ≡ false
  not-there None found = refl
  not-there (Some index) found = absurd found

  at-most-one : (x : Option (Index RuntimeDataSpace)) (places : Places) → count_by is_some (x ∷ places) ≤ 1 + count_by is_some places
  at-most-one None places = omega (arith, sum_by-cons (λ (o : Option (Index RuntimeDataSpace)). cond (is_some o) 1 0) None places)
  at-most-one (Some index) places = omega (arith, sum_by-cons (λ (o : Option (Index RuntimeDataSpace)). cond (is_some o) 1 0) (Some index) places)

  none-more : (x : Option (Index RuntimeDataSpace)) (places : Places) → is_some x ≡ false → count_by is_some (x ∷ places) ≡ count_by is_some places
  none-more None places none = omega (arith, sum_by-cons (λ (o : Option (Index RuntimeDataSpace)). cond (is_some o) 1 0) None places)
  none-more (Some index) places none = absurd cc

  pub found-few : (places : Places) (ss : List Segment) → AreFound runtime default places ss → count_by is_some places ≤ length ss
  found-few [] ss found = omega arith
  found-few (x ∷ places) [] found = omega (arith, none-more x places (not-there x (found 0)), found-few places [] (λ i. found (suc i)))
  found-few (x ∷ places) (s ∷ ss) found = omega (arith, at-most-one x places, found-few places ss (λ i. found (suc i)))

-- ---- a planned translation

module _ (i : InitOptions) (bytes : List ℕ) (m : plain.Module) (keeps : Keeps m) (t : ModuleTranslation) (is : IsInitialised i bytes m t) where
  rest : HasRest i bytes m t
  rest = has-rest i bytes m t is

  pub types : length t.module.types ≡ length (plain.types m)
  types = listed-long m (keeps-earlier m keeps) t.module.types rest.types.declared

  pub imports : length t.module.initializers.items ≡ length (plain.imports m)
  imports = sym (length-map t.module.initializers.items (resolved_import t.module.strings)) ∙ ap length rest.entities.imports ∙ imports-long [] (plain.imports m)

  pub exports : length t.module.exports.entries ≡ length (flat_map plain.exports_of_section m)
  exports = sym (length-map t.module.exports.entries (resolved_export t.module.strings)) ∙ ap length rest.entities.exports ∙ length-map (flat_map plain.exports_of_section m) _

  pub functions : length t.module.functions ≡ length (plain.functions m)
  functions = ap length rest.escapes.functions ∙ length-map (enumerate_from 0 (plain.functions m)) _ ∙ length-enumerate_from 0 (plain.functions m)

  pub signatures : length t.exported_signatures.items ≤ length t.module.functions
  signatures = omega (
    arith,
    signatures-few _ _ (map number_of t.exported_signatures.items) rest.escapes.signatures,
    length-map t.exported_signatures.items number_of,
    rest.escapes.count,
    rest.escapes.below,
  )

  abbrev globals : List GlobalDef
  globals = flat_map plain.globals_of_section m

  first-count : length (initialisers globals) ≡ length globals
  first-count = length-enumerate_from 0 (map (λ (g : GlobalDef). g.init) globals) ∙ length-map globals (λ (g : GlobalDef). g.init)

  pub known : length t.module.global_initializers.items ≤ length globals
  known = omega (
    arith,
    sym (length-map t.module.global_initializers.items simple_global_of) ∙ ap length rest.globals.known,
    kept-few simple_of (initialisers globals),
    first-count,
  )

  pub left : length t.global_initializers.items ≤ length globals
  left = omega (
    arith,
    sym (length-map t.global_initializers.items (view_initialiser (λ e. e))) ∙ ap length rest.globals.left ∙ length-map _ _,
    kept-few kept_of (initialisers globals),
    first-count,
  )

  abbrev tables : List TableDef
  tables = flat_map plain.tables_of_section m

  pub values : length t.table_initialization.initial_values ≤ length tables
  values = omega (
    arith,
    is.rest.counts.values,
    length-drop t.module.num_imported_tables t.module.tables,
    rest.counts.tables,
    sym (length-map t.module.tables table_of) ∙ ap length rest.entities.tables ∙ length-map (plain.tables m) _,
    length-append (plain.imported_of plain.table_import m) (map (λ (d : TableDef). d.type) tables),
    length-map tables (λ (d : TableDef). d.type),
  )

  pub table-images : length t.module.table_initialization ≤ length tables
  table-images = omega (arith, values, is.rest.counts.images)

  pub elements : length t.table_initialization.segments.items + length t.module.passive_elements ≤ length (flat_map plain.elements_of_section m)
  elements =
      let old = is.rest.before in
      let es = flat_map plain.elements_of_section m in
      let counted : length old.table_initialization.segments.items ≡ length (active_items (look_up_in m) es) =
      sym (length-map old.table_initialization.segments.items view_segment) ∙ ap length is.rest.translation.sections.elements.active in
      let kinds : length t.module.passive_elements ≡ length t.passive_elements = ap length rest.kinds ∙ length-map t.passive_elements _ in
      let passive : length t.passive_elements ≡ length (passive_elements es) =
      sym (length-map t.passive_elements view_items) ∙ ap length rest.passive ∙ length-map (passive_elements es) _ in
      omega (
        arith,
        ap length is.rest.left.segments,
        length-drop is.rest.left.taken old.table_initialization.segments.items,
        counted,
        kinds,
        passive,
        elements-few (look_up_in m) es,
      )

  -- ---- memories

  abbrev plan : MemoryPlan
  plan = memory_plan_of t

  pub few : IsFew (length (plain.imported_memories m) + length (map image_memory_of (plain.defined_memories m))) (length (held_segments m)) (length (passive_bytes m))
      (sum_by (λ (s : ActiveSegment). length s.offset) (held_segments m)) plan
  few = plan-few (images i) (length (plain.imported_memories m)) (map image_memory_of (plain.defined_memories m)) (held_segments m) (passive_bytes m) plan is.memories.plan

  both : length (held_segments m) + length (passive_bytes m) ≤ length (plain.segments m)
  both = omega (
    arith,
    segments-few 0 (plain.segments m),
    length-map (active_segments m) held_segment,
    length-map (passive_data_from 0 (plain.segments m)) (λ (p : ℕ × List ℕ). p.1),
  )

  memories : length (plain.imported_memories m) + length (map image_memory_of (plain.defined_memories m)) ≡ length (plain.memories m)
  memories = omega (arith, length-map (plain.defined_memories m) image_memory_of, length-append (plain.imported_memories m) (plain.defined_memories m))

  pub memory-images : length (images_in t.module.memory_initialization) ≤ length (plain.memories m)
  memory-images = omega (arith, images-same t.module.memory_initialization, few.images, memories)

  pub data-segments : length (segments_in t.memory_init) ≤ length (plain.memories m) + length (plain.segments m)
  data-segments = omega (arith, segments-same t.memory_init, few.segments, memories, both)

  pub runtime : length t.module.runtime_data ≤ length (plain.memories m) + length (plain.segments m)
  runtime = omega (
    arith,
    sym (length-map t.module.runtime_data _) ∙ ap length is.memories.ranges ∙ ranges-long 0 (map length plan.runtime) ∙ length-map plan.runtime length,
    few.runtime,
    memories,
    both,
  )

  pub found : count_by is_some t.runtime_data_map.items ≤ length (plain.segments m)
  found = found-few plan.runtime t.runtime_data_map.default t.runtime_data_map.items (plain.segments m) is.also.passive
