-- Two plans of one module, planned with the same options, hold the same.
use Rattle.std.proofs.Common.{◌≡◌, ◌∙◌, ℕ, ◌-◌, true, false, List, length, get_or, drop, map, Option, None, Some, refl, sym, ap, subst}
use Rattle.std.specs.Prelude.{slice_get}
use Rattle.std.specs.List.{list_any}
use Rattle.std.specs.Option.{option_and_then}
use Rattle.std.specs.Global.{Vec}
use Rattle.std.proofs.lemmas.List.{length-map}
use Rattle.entity_map.specs.Secondary.{value_at}
use Rattle.type_spec.specs.ListLaws.{map-twice}
use Rattle.wasm_spec.specs.Module as plain
use Rattle.rule_spec.specs.Rules.{Keeps}
use Rattle.wasm_spec.specs.TypeData.{Reference}
use Rattle.wasm_index.specs.declared.index.Index.{Index}
use Rattle.wasm_index.specs.declared.spaces.FuncSpace.{FuncSpace}
use Rattle.wasm_index.specs.Index.{number_of, index_of}
use Rattle.wasm_types.specs.Collected.{heap_is_collected}
use Rattle.wasm_types.specs.declared.heap.WasmHeapType.TheVariants.{Func}
use Rattle.wasm_types.specs.declared.sub.WasmSubType.{WasmSubType}
use Rattle.wasm_types.specs.declared.table.Table.{Table}
use Rattle.wasm_types.specs.declared.value.WasmRefType.{WasmRefType}
use Rattle.wasm_types.specs.EntityViews.{global_of, table_of, global_back, table_back}
use Rattle.wasm_types.specs.ValueViews.{Name}
use Rattle.wasm_types.specs.ViewsTell.{Back, tells, reference_back}
use Rattle.wasm_convert.specs.declared.operators.ConstOp.{ConstOp}
use Rattle.wasm_module.specs.declared.table_initialization.TableInitialValue.{TableInitialValue}
use Rattle.wasm_module.specs.declared.table_initialization.TableInitialValue.TheVariants as initial
use Rattle.wasm_module.specs.declared.table_initialization.TableSegmentElements.{TableSegmentElements}
use Rattle.wasm_module.specs.declared.table_initialization.TableSegmentElements.TheVariants as elements
use Rattle.wasm_module.specs.Elements.{element_type, element_count}
use Rattle.form_reader.proofs.SectionLaws.{module_once}
use Rattle.replay_spec.specs.Elements.{Items, Functions, Expressions}
use Rattle.replay_spec.specs.Plan.{MemoryPlan, ranges_from}
use Rattle.replay_spec.specs.Startup.{Startup}
use Rattle.replay_spec.specs.Tables.{PlannedTable, TablePlan}
use Rattle.gc_layout.specs.Objects.{gc_layout_of}
use Rattle.table_images.specs.Steps.{images_of}
use Rattle.table_images.specs.Views.{image_of, initial_of, active_elements_of, planned_tables_of}
use Rattle.table_images.proofs.Tables.{planned-initials}
use Rattle.custom_sections.specs.NameLists.{NameLists}
use Rattle.init_plan.specs.declared.translation.ModuleTranslation.{ModuleTranslation}
use Rattle.init_plan.specs.Startup.{startup_with}
use Rattle.init_plan.specs.Tables.{own_tables, plan_of_tables}
use Rattle.init_plan.specs.Views.{memory_plan_of, FindsInOrder}
use Rattle.module_sections.specs.Initialisers.{view_initialiser, view_first_value, view_items, view_segment, passive_data_from}
use Rattle.module_environ.specs.Customs.{names_asked}
use Rattle.interned_types.specs.Types.{interned_list, type_index, look_up_in}
use Rattle.module_environ.specs.Readable.{IsReadable}
use Rattle.plan_text.specs.declared.plan.Plan.{Plan}
use Rattle.translate.specs.Also.{Finds, passive_bytes_of}
use Rattle.translate.specs.Initialised.{IsInitialised}
use Rattle.translate.specs.Contexts.{context_of}
use Rattle.translate.specs.Options.{Options, header_size, runs, startup_by, BecomesImages, PlansMemories, PlansTables}
use Rattle.translate.specs.Planned.{IsPlanOf, IsPlanned, HoldsTypes}
use Rattle.plan_laws.specs.Same.{SameModule, SameTranslation, SamePlan}
use Rattle.plan_laws.specs.Kept.{IsKept}
use Rattle.plan_laws.proofs.Ascending.{signatures-same}
use Rattle.plan_laws.proofs.Globals.{values-told, names-told, locals-told}
use Rattle.plan_laws.proofs.Memories.{begin-same, told-same, left-same, plan-no-null}
use Rattle.plan_laws.proofs.Offsets.{held-plain}
use Rattle.plan_laws.proofs.Parts.{SameMemories, SameTables, same-memories, same-tables}
use Rattle.plan_laws.proofs.Passive.{found-same, default-none, numbers-default}
use Rattle.plan_laws.proofs.Rest.{HasRest, has-rest}
use Rattle.plan_laws.proofs.Tables.{same-left, values-same, images-at, images-same, image-back}
use Rattle.plan_laws.proofs.Told.{index-back, option-back, all-told}
use Rattle.plan_laws.proofs.Types.{same-list}

-- ---- ways back

abbrev first_from : Option (List ConstOp) → TableInitialValue
first_from None = initial.Null
first_from (Some e) = initial.Expr e

first-from-is : (x : TableInitialValue) → first_from (view_first_value x) ≡ x
first-from-is initial.Null = refl
first-from-is (initial.Expr e) = refl

first-back : Back view_first_value
first-back = record { back = first_from; is = first-from-is }

initialiser-back : Back (view_initialiser (λ (e : List ConstOp). e))
initialiser-back = record { back = λ g. (index_of g.0, g.1); is = λ g. refl }

-- the type and the number of elements
kind_by : Items (Reference Name) (List ConstOp) → WasmRefType × ℕ
kind_by (Functions functions) = (record { nullable = true; heap_type = Func }, length functions)
kind_by (Expressions type expressions) = (reference_back.back type, length expressions)

abbrev kind_of : TableSegmentElements → WasmRefType × ℕ
kind_of e = (element_type e, element_count e)

kind-by : (e : TableSegmentElements) → kind_by (view_items e) ≡ kind_of e
unfolding kind_by
kind-by (elements.Functions functions) = λ i. (record { nullable = true; heap_type = Func }, length-map functions.items number_of i)
kind-by (elements.Expressions ty expressions) = λ i. (reference_back.is ty i, length expressions.items)

-- ---- two plans

-- all plans of a module have one startup, and one context
abbrev pub OneStartup : Type 0
OneStartup = (o : Options) (m : plain.Module) (p q : MemoryPlan) (s t : TablePlan) → PlansMemories o.init m p → PlansMemories o.init m q
    → PlansTables o.init m s → PlansTables o.init m t → startup_by m p s ≡ startup_by m q t

abbrev pub OneContext : Type 0
OneContext = (o : Options) (m : plain.Module) (p q : MemoryPlan) (s t : TablePlan) → PlansMemories o.init m p → PlansMemories o.init m q
    → PlansTables o.init m s → PlansTables o.init m t → context_of o m p s ≡ context_of o m q t

module _ (one-startup : OneStartup) (one-context : OneContext) (o : Options) (bytes : List ℕ) (m : plain.Module) (read : IsReadable bytes m) (keeps : Keeps m) (p q : Plan) (a : IsPlanOf o bytes m p)
    (b : IsPlanOf o bytes m q) (kept : IsKept p) (keeping : IsKept q) where
  abbrev t : ModuleTranslation
  t = p.translation

  abbrev u : ModuleTranslation
  u = q.translation

  abbrev is : IsInitialised o.init bytes m t
  is = a.translation

  abbrev are : IsInitialised o.init bytes m u
  are = b.translation

  x : HasRest o.init bytes m t
  x = has-rest o.init bytes m t is

  y : HasRest o.init bytes m u
  y = has-rest o.init bytes m u are

  memories : SameMemories (memory_plan_of t) (memory_plan_of u)
  memories = same-memories _ _ _ _ _ (memory_plan_of t) (memory_plan_of u) is.memories.plan are.memories.plan

  tables : SameTables (plan_of_tables t) (plan_of_tables u)
  tables = same-tables _ _ _ _ (plan_of_tables t) (plan_of_tables u) is.tables are.tables

  starts : startup_by m (memory_plan_of t) (plan_of_tables t) ≡ startup_by m (memory_plan_of u) (plan_of_tables u)
  starts = one-startup o m (memory_plan_of t) (memory_plan_of u) (plan_of_tables t) (plan_of_tables u) is.memories.plan are.memories.plan is.tables are.tables

  -- ---- tables

  all-tables : t.module.tables ≡ u.module.tables
  all-tables = all-told table_of table_back t.module.tables u.module.tables (x.entities.tables ∙ sym y.entities.tables)

  table-count : t.module.num_imported_tables ≡ u.module.num_imported_tables
  table-count = x.counts.tables ∙ sym y.counts.tables

  owns : own_tables t ≡ own_tables u
  owns = λ i. drop (table-count i) (all-tables i)

  values-long : length (own_tables t) ≡ length u.table_initialization.initial_values
  values-long = ap length owns ∙ are.rest.counts.values

  -- what the other plan says of tables, over any types of them
  abbrev planned : List Table → List PlannedTable
  planned rs = planned_tables_of rs u.table_initialization.initial_values (images_of u.module.table_initialization)

  images : map (λ (image : Vec (Index FuncSpace)). image.items) t.module.table_initialization ≡ map (λ (image : Vec (Index FuncSpace)). image.items) u.module.table_initialization
  images =
      let ts = own_tables t in
      let seen : images_of t.module.table_initialization ≡ images_of u.module.table_initialization = images-same ts
      t.table_initialization.initial_values u.table_initialization.initial_values (images_of t.module.table_initialization) (images_of u.module.table_initialization)
      is.rest.counts.values values-long
      (length-map t.module.table_initialization _ ∙ is.rest.counts.images) (length-map u.module.table_initialization _ ∙ are.rest.counts.images)
      (λ i v w here there. images-at _ _ _ _ (plan_of_tables t) (plan_of_tables u) is.tables are.tables i v w here
      (subst (λ (rs : List Table). slice_get (planned rs) i ≡ Some w) owns there)) in
      all-told image_of image-back _ _
      (map-twice (λ (image : Vec (Index FuncSpace)). image.items) image_of (λ image. image_of image.items) (λ image. refl) t.module.table_initialization ∙ seen
      ∙ sym (map-twice (λ (image : Vec (Index FuncSpace)). image.items) image_of (λ image. image_of image.items) (λ image. refl) u.module.table_initialization))

  firsts : is.rest.before.table_initialization.initial_values ≡ are.rest.before.table_initialization.initial_values
  firsts = all-told view_first_value first-back _ _
      (is.rest.translation.sections.elements.first ∙ sym are.rest.translation.sections.elements.first)

  initials : map initial_of t.table_initialization.initial_values ≡ map initial_of u.table_initialization.initial_values
  initials =
      sym (planned-initials (own_tables t) t.table_initialization.initial_values (images_of t.module.table_initialization) is.rest.counts.values
      (length-map t.module.table_initialization _ ∙ is.rest.counts.images))
      ∙ tables.initials
      ∙ planned-initials (own_tables u) u.table_initialization.initial_values (images_of u.module.table_initialization) are.rest.counts.values
      (length-map u.module.table_initialization _ ∙ are.rest.counts.images)

  initial-values : t.table_initialization.initial_values ≡ u.table_initialization.initial_values
  initial-values = values-same (λ i. get_or is.rest.before.table_initialization.initial_values i initial.Null) t.table_initialization.initial_values
      u.table_initialization.initial_values (λ i e here. is.rest.left.initialisers i e here)
      (λ i e here. ap (λ (vs : List TableInitialValue). get_or vs i initial.Null) firsts ∙ are.rest.left.initialisers i e here) initials

  kept-long : length t.table_initialization.segments.items ≡ length u.table_initialization.segments.items
  kept-long = sym (length-map t.table_initialization.segments.items active_elements_of) ∙ ap length tables.segments
      ∙ length-map u.table_initialization.segments.items active_elements_of

  elements-left : map view_segment t.table_initialization.segments.items ≡ map view_segment u.table_initialization.segments.items
  elements-left = same-left view_segment t.table_initialization.segments.items u.table_initialization.segments.items
      is.rest.before.table_initialization.segments.items are.rest.before.table_initialization.segments.items is.rest.left.taken are.rest.left.taken
      is.rest.left.segments are.rest.left.segments (is.rest.translation.sections.elements.active ∙ sym are.rest.translation.sections.elements.active) kept-long

  kinds : map kind_of t.passive_elements ≡ map kind_of u.passive_elements
  kinds =
      sym (map-twice view_items kind_by kind_of kind-by t.passive_elements) ∙ ap (map kind_by) (x.passive ∙ sym y.passive)
      ∙ map-twice view_items kind_by kind_of kind-by u.passive_elements

  -- ---- memories

  abbrev Images : Type 0
  Images = BecomesImages o.init m

  begins : t.module.memory_initialization ≡ u.module.memory_initialization
  begins = begin-same Images t.module.memory_initialization u.module.memory_initialization (λ none. (is.memories.segmented none).0)
      (λ some. (is.memories.imaged some).0) (λ none. (are.memories.segmented none).0) (λ some. (are.memories.imaged some).0) memories.images

  aligned : t.data_align ≡ u.data_align
  aligned = told-same Images t.module.memory_initialization u.module.memory_initialization t.data_align u.data_align None (Some o.init.page_size)
      (λ none. (is.memories.segmented none).0) (λ some. (are.memories.imaged some).0) (λ none. (are.memories.segmented none).0) (λ some. (is.memories.imaged some).0)
      (λ none. (is.memories.segmented none).1) (λ some. (is.memories.imaged some).1) (λ none. (are.memories.segmented none).1) (λ some. (are.memories.imaged some).1)

  -- the runtime data of the other plan are these
  abbrev there : List (List ℕ) → Type 0
  there runtime = FindsInOrder runtime (memory_plan_of u).passive (length runtime - length (passive_data_from 0 (plain.segments m))) (passive_data_from 0 (plain.segments m))

  finds : (index : ℕ) → Finds (memory_plan_of t).runtime ((memory_plan_of u).passive index) (option_and_then passive_bytes_of (slice_get (plain.segments m) index))
  finds index = subst (λ (runtime : List (List ℕ)). Finds runtime ((memory_plan_of u).passive index) (option_and_then passive_bytes_of (slice_get (plain.segments m) index)))
      (sym memories.runtime) (are.also.passive index)

  passive : (index : ℕ) → value_at t.runtime_data_map index ≡ value_at u.runtime_data_map index
  passive index = tells (option-back index-back) _ _
      (found-same (memory_plan_of t).runtime (memory_plan_of t).passive (memory_plan_of u).passive (plain.segments m)
      (length (memory_plan_of t).runtime - length (passive_data_from 0 (plain.segments m))) is.memories.in_order (subst there (sym memories.runtime) are.memories.in_order)
      is.also.passive finds index)

  -- ---- the record

  abbrev names : NameLists
  names = names_asked o.init.tunables.debug_native m

  same-module : SameModule t.module u.module
  same-module = record {
    module_index = x.index ∙ sym y.index;
    strings = x.strings ∙ sym y.strings;
    name = x.customs.names.of_module ∙ sym y.customs.names.of_module;
    imports = x.entities.imports ∙ sym y.entities.imports;
    exports = x.entities.exports ∙ sym y.entities.exports;
    startup = is.startup ∙ ap (λ (k : Startup). startup_with k (type_index (length (interned_list m false).types))) starts ∙ sym are.startup;
    table_images = images;
    memory_initialization = begins;
    passive_elements = x.kinds ∙ kinds ∙ sym y.kinds;
    runtime_data = is.memories.ranges ∙ ap (λ (runtime : List (List ℕ)). ranges_from 0 (map length runtime)) memories.runtime ∙ sym are.memories.ranges;
    types = x.types.declared ∙ sym y.types.declared;
    num_imported_funcs = x.counts.functions ∙ sym y.counts.functions;
    num_imported_tables = table-count;
    num_imported_memories = x.counts.memories ∙ sym y.counts.memories;
    num_imported_globals = x.counts.globals ∙ sym y.counts.globals;
    num_imported_tags = x.counts.tags ∙ sym y.counts.tags;
    needs_gc_heap = x.heap ∙ (λ i. list_any (λ (table : Table). heap_is_collected table.ref_type.heap_type) (owns i)) ∙ sym y.heap;
    num_escaped_funcs = x.escapes.count ∙ sym y.escapes.count;
    functions = x.escapes.functions ∙ sym y.escapes.functions;
    tables = all-tables;
    memories = x.entities.memories ∙ sym y.entities.memories;
    globals = all-told global_of global_back t.module.globals u.module.globals (x.entities.globals ∙ sym y.entities.globals);
    global_initializers = values-told _ _ kept.values keeping.values (x.globals.known ∙ sym y.globals.known);
    tags = x.types.tags ∙ sym y.types.tags;
  }

  same-translation : SameTranslation t u
  same-translation = record {
    «module» = same-module;
    wasm = x.wasm ∙ sym y.wasm;
    wasm_module_offset = x.offset ∙ sym y.offset;
    bodies = x.code.bodies ∙ sym y.code.bodies;
    signatures = all-told number_of index-back _ _ (signatures-same _ _ _ _ x.escapes.signatures y.escapes.signatures);
    module_name = x.customs.names.section.module_name ∙ sym y.customs.names.section.module_name;
    function_names = names-told names.functions t.debuginfo.name_section u.debuginfo.name_section x.customs.names.section.functions y.customs.names.section.functions kept.names keeping.names;
    locals_names = locals-told names.locals t.debuginfo.name_section.locals_names u.debuginfo.name_section.locals_names
        x.customs.names.section.locals y.customs.names.section.locals kept.functions keeping.functions kept.locals keeping.locals;
    imported_functions = x.code.imports ∙ sym y.code.imports;
    metadata = x.customs.functions ∙ sym y.customs.functions;
    code_place = x.code.place ∙ sym y.code.place;
    hints = λ function. x.customs.hints function ∙ sym (y.customs.hints function);
    has_unparsed_debuginfo = x.customs.debug ∙ sym y.customs.debug;
    data_align = aligned;
    passive = x.data_segments ∙ sym y.data_segments;
    no_default = (
      default-none (memory_plan_of t).runtime (plain.segments m) t.runtime_data_map is.also.passive,
      default-none (memory_plan_of u).runtime (plain.segments m) u.runtime_data_map are.also.passive,
    );
    passive_data = passive;
    no_number = (numbers-default _ t.passive_elem_map x.numbers, numbers-default _ u.passive_elem_map y.numbers);
    passive_numbers = λ index. tells (option-back index-back) _ _ (x.numbers index ∙ sym (y.numbers index));
    runtime_data = memories.runtime;
    start = tells (option-back index-back) _ _ (x.entities.start ∙ sym y.entities.start);
    global_initializers = all-told (view_initialiser (λ (e : List ConstOp). e)) initialiser-back _ _ (x.globals.left ∙ sym y.globals.left);
    passive_elements = x.passive ∙ sym y.passive;
    initial_values = initial-values;
    elements = elements-left;
    segments = left-same (look_up_in m) t.memory_init u.memory_init is.memories.processed are.memories.processed
        (plan-no-null _ _ _ _ _ (memory_plan_of t) (held-plain m keeps) is.memories.plan) memories.segments;
  }

  -- ---- the plan

  types : p.types ≡ q.types
  types = same-list bytes m read keeps (runs (startup_by m (memory_plan_of t) (plan_of_tables t))) p.types q.types a.types
      (subst (λ (k : Startup). HoldsTypes q.types (interned_list m (runs k))) (sym starts) b.types)

  pub same-plan : SamePlan p q
  same-plan = record {
    translation = same-translation;
    types = types;
    layouts = a.layouts ∙ (λ i. map (λ (type : WasmSubType). gc_layout_of (header_size o.collector) type.composite_type.inner) (types i).types) ∙ sym b.layouts;
    offsets = a.offsets
        ∙ one-context o m (memory_plan_of t) (memory_plan_of u) (plan_of_tables t) (plan_of_tables u) is.memories.plan are.memories.plan is.tables are.tables
        ∙ sym b.offsets;
  }

-- ---- of one input

pub one-plan : OneStartup → OneContext → (o : Options) (bytes : List ℕ) (p q : Plan) → IsKept p → IsKept q → IsPlanned o bytes p → IsPlanned o bytes q → SamePlan p q
one-plan one-startup one-context o bytes p q kept keeping a b =
    same-plan one-startup one-context o bytes a.meaning a.read a.keeps p q a.planned
    (subst (λ (m : plain.Module). IsPlanOf o bytes m q) (module_once bytes b.meaning a.meaning b.read.spelled a.read.spelled) b.planned) kept keeping
