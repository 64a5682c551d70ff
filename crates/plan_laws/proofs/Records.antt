-- The tables of two plans that hold the same are equal, but for which runtime data each made.
use Rattle.std.proofs.Common.{◌≡◌, ◌∙◌, ℕ, ◌+◌, List, [], ◌∷◌, length, map, Option, None, Some, codes, refl, sym, ap, subst}
use Rattle.std.specs.Prelude.{IsTrue, IsFalse, unwrap_or}
use Rattle.std.specs.BTreeMap.{BTreeMap}
use Rattle.std.specs.List.{flat_map}
use Rattle.std.specs.Option.{option_map}
use Rattle.std.specs.Global.{Vec}
use Rattle.std.specs.declared.ops.Range.{Range}
use Rattle.std.proofs.lemmas.List.{length-map}
use Rattle.entity_map.specs.Keyed.{keyed, keyed_from}
use Rattle.type_spec.specs.ListLaws.{map-twice}
use Rattle.wasm_spec.specs.Module.{Body}
use Rattle.wasm_spec.specs.TypeData.{ValueType, Reference}
use Rattle.form_reader.specs.Views.{body_of}
use Rattle.wasm_index.specs.declared.index.Index.{Index}
use Rattle.wasm_index.specs.declared.spaces.FuncSpace.{FuncSpace}
use Rattle.wasm_index.specs.Index.{number_of, index_of}
use Rattle.wasm_types.specs.ValueViews.{Name, value_of as view_value}
use Rattle.wasm_types.specs.ViewsTell.{value_back}
use Rattle.wasm_convert.specs.declared.operators.ConstOp.{ConstOp}
use Rattle.replay_spec.specs.Elements.{ActiveItems}
use Rattle.wasm_module.specs.declared.function.FunctionType.{FunctionType}
use Rattle.wasm_module.specs.declared.table_initialization.TableSegment.{TableSegment}
use Rattle.gc_layout.specs.declared.object.GcLayout.{GcLayout}
use Rattle.gc_layout.specs.declared.object.GcLayout.TheVariants as layout
use Rattle.gc_layout.specs.Objects.{ObjectLayout, OfArray, OfFields, object_layout}
use Rattle.module_types.specs.TypeList.{TypeList}
use Rattle.module_types.specs.Views.{TypeIndex}
use Rattle.init_plan.specs.declared.debug_info.FunctionMetadata.{FunctionMetadata}
use Rattle.init_plan.specs.declared.translation.FunctionBodyData.{FunctionBodyData}
use Rattle.init_plan.specs.declared.translation.MemoryInit.{MemoryInit}
use Rattle.init_plan.specs.declared.translation.MemoryInit.TheVariants as init
use Rattle.init_plan.specs.declared.translation.ModuleTranslation.{ModuleTranslation}
use Rattle.init_plan.specs.declared.translation.RuntimeBytes.{RuntimeBytes}
use Rattle.init_plan.specs.declared.translation.RuntimeBytes.TheVariants as runtime
use Rattle.init_plan.specs.Views.{bytes_of}
use Rattle.module_customs.specs.Names.{Text}
use Rattle.module_sections.specs.Initialisers.{view_items, view_segment}
use Rattle.module_environ.specs.Metadata.{ParamsAndLocals, view_function}
use Rattle.vm_offsets.specs.Context.{context_entries, context_size, entry_named}
use Rattle.vm_offsets.specs.Layouts.{pointer_of}
use Rattle.vm_offsets.specs.Regions.{context_regions}
use Rattle.plan_text.specs.declared.plan.Plan.{Plan}
use Rattle.plan_lines.specs.TypeLines.{listed_number}
use Rattle.plan_tables.specs.declared.record.BodiesRecord.{BodiesRecord}
use Rattle.plan_tables.specs.declared.record.LayoutsRecord.{LayoutsRecord}
use Rattle.plan_tables.specs.declared.record.PlanRecord.{PlanRecord}
use Rattle.plan_tables.specs.declared.record.RuntimeRow.{RuntimeRow}
use Rattle.plan_tables.specs.declared.rows.ElementsRow.{ElementsRow}
use Rattle.plan_tables.specs.declared.rows.LayoutFieldRow.{LayoutFieldRow}
use Rattle.plan_tables.specs.declared.rows.LayoutRow.{LayoutRow}
use Rattle.plan_tables.specs.declared.rows.LocalsRow.{LocalsRow}
use Rattle.plan_tables.specs.declared.rows.Span.{Span}
use Rattle.form_reader.specs.ReadingNumbers.{counted_bytes_at}
use Rattle.plan_tables.specs.Bodies.{sized_bodies, counted_or_none, body_rows, locals_row, TellsBodies}
use Rattle.plan_tables.specs.Context.{BeginsAt, TellsContext, placed_back}
use Rattle.plan_tables.specs.Debug.{TellsDebug, local_name, local_names, metadata_run}
use Rattle.plan_tables.specs.Expressions.{TellsExpressions, TellsPlaces, offset_operators, value_operators}
use Rattle.plan_tables.specs.Facts.{facts_row, startup_row, images_bit, start_number}
use Rattle.plan_tables.specs.Functions.{TellsFunctions, hints_row, branch_hint_rows, passive_segment_row, passive_elements_row}
use Rattle.plan_tables.specs.Globals.{TellsGlobals, global_value_row}
use Rattle.plan_tables.specs.Interned.{TellsInterned}
use Rattle.plan_tables.specs.Items.{TellsItems}
use Rattle.plan_tables.specs.Layouts.{TellsLayouts, array_row, struct_row, field_row, layout_rows, layout_fields}
use Rattle.plan_tables.specs.Memories.{TellsMemories, data_range, image_rows, passive_row, runtime_row, runtime_told}
use Rattle.plan_tables.specs.Numbers.{bit}
use Rattle.plan_tables.specs.Plan.{Tells}
use Rattle.plan_tables.specs.Segments.{element_row, expression_place, planned_of, segment_row}
use Rattle.plan_tables.specs.Spans.{spans_from}
use Rattle.plan_tables.specs.Structs.{TellsStructs}
use Rattle.plan_tables.specs.Tables.{TellsTables}
use Rattle.plan_tables.specs.Types.{TellsTypes}
use Rattle.plan_laws.specs.Records.{TellAlike, with_runtime}
use Rattle.plan_laws.specs.Same.{SameModule, SameTranslation, SamePlan, left_of, locals_named}
use Rattle.plan_laws.proofs.Rows.{own-text, names-tell, entities-tell, kinds-tell, expressions-told, items-told}
use Rattle.plan_laws.proofs.Text.{items_count, count-by}
use Rattle.plan_laws.proofs.Told.{lines-told, rows-told, found-told}

-- ---- layouts

fields_by : ObjectLayout → List LayoutFieldRow
fields_by (OfArray a) = []
fields_by (OfFields s) = map field_row s.fields

layout_by : ℕ → TypeIndex → ObjectLayout → LayoutRow
layout_by n ty (OfArray a) = array_row ty n a
layout_by n ty (OfFields s) = struct_row ty (record { begin = n; len = length s.fields }) s

layouts_by : ℕ → ℕ → List (Option ObjectLayout) → List LayoutRow
layouts_by k n [] = []
layouts_by k n (None ∷ ls) = layouts_by (k + 1) n ls
layouts_by k n (Some l ∷ ls) = layout_by n (index_of k) l ∷ layouts_by (k + 1) (n + length (fields_by l)) ls

layouts-by : (k n : ℕ) (ls : List (Option GcLayout)) → layout_rows n (keyed_from index_of k ls) ≡ layouts_by k n (map (option_map object_layout) ls)
unfolding layouts_by layout_by fields_by
layouts-by k n [] = refl
layouts-by k n (None ∷ ls) = layouts-by (k + 1) n ls
layouts-by k n (Some (layout.Array a) ∷ ls) = λ i. array_row (index_of k) n a ∷ layouts-by (k + 1) (n + 0) ls i
layouts-by k n (Some (layout.Struct s) ∷ ls) = λ i.
    struct_row (index_of k) (record { begin = n; len = length s.value.fields }) s.value ∷ layouts-by (k + 1) (n + length (map field_row s.value.fields)) ls i

all_fields_by : Option ObjectLayout → List LayoutFieldRow
all_fields_by None = []
all_fields_by (Some l) = fields_by l

fields-by : (o : Option GcLayout) → layout_fields o ≡ all_fields_by (option_map object_layout o)
unfolding all_fields_by fields_by
fields-by None = refl
fields-by (Some (layout.Array a)) = refl
fields-by (Some (layout.Struct s)) = refl

layouts-tell : (ls ks : List (Option GcLayout)) → map (option_map object_layout) ls ≡ map (option_map object_layout) ks → (r : LayoutsRecord) → TellsLayouts ls r
    → TellsLayouts ks r
layouts-tell ls ks same r c = record {
  rows = c.rows ∙ layouts-by 0 0 ls ∙ ap (layouts_by 0 0) same ∙ sym (layouts-by 0 0 ks);
  fields = c.fields ∙ lines-told (option_map object_layout) layout_fields all_fields_by fields-by ls ks same;
}

-- ---- bodies

abbrev view_body : FunctionBodyData → Body
view_body input = body_of input.body

bodies_by : List ℕ → ℕ → List Body → List (List ℕ × List ℕ × Span)
bodies_by sized n [] = []
bodies_by sized n (b ∷ bs) =
    ((counted_or_none (counted_bytes_at sized)).0, b.rest, record { begin = n; len = length b.locals })
    ∷ bodies_by (counted_or_none (counted_bytes_at sized)).1 (n + length b.locals) bs

bodies-by : (sized : List ℕ) (n : ℕ) (bs : List FunctionBodyData) → body_rows sized n bs ≡ bodies_by sized n (map view_body bs)
unfolding bodies_by
bodies-by sized n [] = refl
bodies-by sized n (b ∷ bs) = λ i.
    ((counted_or_none (counted_bytes_at sized)).0, b.body.rest.now, record { begin = n; len = length b.body.locals.items })
    ∷ bodies-by (counted_or_none (counted_bytes_at sized)).1 (n + length b.body.locals.items) bs i

-- where the bodies of a translation begin
abbrev bodies_in : ModuleTranslation → List ℕ
bodies_in t = sized_bodies t.wasm.now t.debuginfo.wasm_file.code_section_offset

bodies-tell : (t u : ModuleTranslation) → SameTranslation t u → (r : BodiesRecord) → TellsBodies t r → TellsBodies u r
bodies-tell t u same r c = record {
  rows = c.rows ∙ bodies-by (bodies_in t) 0 t.function_body_inputs ∙ (λ i. bodies_by (sized_bodies (same.wasm i) (same.code_place i)) 0 (same.bodies i)) ∙ sym (bodies-by (bodies_in u) 0 u.function_body_inputs);
  locals = c.locals ∙ lines-told view_body (λ (b : FunctionBodyData). map locals_row b.body.locals.items) (λ (b : Body). map locals_row b.locals) (λ b. refl)
      t.function_body_inputs u.function_body_inputs same.bodies;
}

-- ---- for a debugger

run_by : ℕ × ValueType Name → LocalsRow
run_by run = metadata_run (run.0, value_back.back run.1)

runs_by : ParamsAndLocals → List LocalsRow
runs_by f = map run_by f.locals

runs-by : (f : FunctionMetadata) → map metadata_run f.locals.items ≡ runs_by (view_function f)
unfolding runs_by run_by
runs-by f = sym (map-twice (λ run. (run.0, view_value run.1)) run_by metadata_run (λ run i. metadata_run (run.0, value_back.is run.1 i)) f.locals.items)

count-runs : (f : FunctionMetadata) → length f.locals.items ≡ length (view_function f).locals
count-runs f = sym (length-map f.locals.items (λ run. (run.0, view_value run.1)))

names_by : ℕ × List (ℕ × List ℕ) → List (ℕ × ℕ × List ℕ)
names_by entry = map (λ name. (entry.0, name.0, name.1)) entry.1

names-by : (entry : Index FuncSpace × BTreeMap ℕ Text) → local_names entry ≡ names_by (locals_named entry)
unfolding names_by
names-by entry = sym (map-twice (λ name. (name.0, name.1.now)) (λ name. (number_of entry.0, name.0, name.1)) (local_name entry.0) (λ name. refl) entry.1.entries)

-- ---- segments

planned-by : (m : MemoryInit) → planned_of m ≡ left_of m
planned-by (init.Unprocessed segments) = refl
planned-by (init.Processed segments) = refl

element_by : ActiveItems (Reference Name) (List ConstOp) → ElementsRow
element_by s = record {
  table = s.table;
  kind = (expression_place s.offset).0;
  offset = (expression_place s.offset).1;
  count = items_count s.items;
}

element-by : (s : TableSegment) → element_row s ≡ element_by (view_segment s)
unfolding element_by
element-by s = λ i. record {
  table = number_of s.table_index;
  kind = (expression_place s.offset).0;
  offset = (expression_place s.offset).1;
  count = count-by s.elements i;
}

-- ---- a translation

made-by : (x : RuntimeBytes) → (runtime_row x).1 ≡ bytes_of x
made-by (runtime.Borrowed bytes) = refl
made-by (runtime.Owned bytes) = refl

module _ (t u : ModuleTranslation) (same : SameTranslation t u) where
  abbrev m : SameModule t.module u.module
  m = same.module

  types-tell : (types : TypeList) (r : PlanRecord) → TellsTypes t types r.types → TellsTypes u types r.types
  types-tell types r c = record {
    declared = c.declared ∙ ap (map listed_number) m.types;
    groups = c.groups;
    functions = c.functions ∙ ap (map (λ (f : FunctionType). listed_number f.signature)) m.functions;
    escapes = c.escapes ∙ ap (map (λ (f : FunctionType). number_of f.func_ref)) m.functions;
    signatures = c.signatures ∙ ap (map number_of) same.signatures;
  }

  planned : planned_of t.memory_init ≡ planned_of u.memory_init
  planned = planned-by t.memory_init ∙ same.segments ∙ sym (planned-by u.memory_init)

  ranges : map data_range t.module.runtime_data ≡ map data_range u.module.runtime_data
  ranges = rows-told (λ (range : Range ℕ). (range.start, range.end)) data_range (λ (p : ℕ × ℕ). record { begin = p.0; end = p.1 }) (λ range. refl)
      t.module.runtime_data u.module.runtime_data m.runtime_data

  memories-tell : (r s : PlanRecord) → TellsMemories t r.memories → TellsMemories u s.memories → TellsMemories u (with_runtime r s).memories
  memories-tell r s c d = record {
    runtime = d.runtime;
    ranges = c.ranges ∙ ranges;
    images = c.images ∙ ap image_rows m.memory_initialization;
    segments = c.segments ∙ ap (map segment_row) planned;
    passive = c.passive ∙ found-told index_of passive_row (λ k. refl) t.runtime_data_map u.runtime_data_map same.no_default.0 same.no_default.1 same.passive_data;
  }

  runtime-told : (r s : PlanRecord) → TellsMemories t r.memories → TellsMemories u s.memories
      → map (λ row. row.bytes.now) r.memories.runtime.now ≡ map (λ row. row.bytes.now) s.memories.runtime.now
  runtime-told r s c d =
      let bytes : ℕ × List ℕ → List ℕ = (λ p. p.1) in
      let told : RuntimeRow → List ℕ = (λ row. row.bytes.now) in
      sym (map-twice runtime_told bytes told (λ row. refl) r.memories.runtime.now) ∙ ap (map bytes) c.runtime
      ∙ map-twice runtime_row bytes bytes_of made-by t.runtime_data ∙ same.runtime_data
      ∙ sym (map-twice runtime_row bytes bytes_of made-by u.runtime_data) ∙ ap (map bytes) (sym d.runtime)
      ∙ map-twice runtime_told bytes told (λ row. refl) s.memories.runtime.now

  tables-tell : (r : PlanRecord) → TellsTables t r.tables → TellsTables u r.tables
  tables-tell r c =
      let items : Vec (Index FuncSpace) → List (Index FuncSpace) = (λ image. image.items) in
      record {
        images = c.images ∙ ap (spans_from 0) (rows-told items (λ image. length image.items) (λ (cells : List (Index FuncSpace)). length cells) (λ image. refl)
            t.module.table_initialization u.module.table_initialization m.table_images);
        cells = c.cells ∙ lines-told items (λ image. map number_of image.items) (λ (cells : List (Index FuncSpace)). map number_of cells) (λ image. refl)
            t.module.table_initialization u.module.table_initialization m.table_images;
        elements = c.elements ∙ rows-told view_segment element_row element_by element-by t.table_initialization.segments.items
            u.table_initialization.segments.items same.elements;
      }

  functions-tell : (r : PlanRecord) → TellsFunctions t r.functions → TellsFunctions u r.functions
  functions-tell r c = record {
    passive_elements = c.passive_elements ∙ ap (map passive_elements_row) m.passive_elements;
    names = c.names ∙ same.function_names;
    hints = c.hints ∙ (λ i. flat_map (λ (p : Index FuncSpace × FunctionType). hints_row p.0 (same.hints (number_of p.0) i)) (keyed index_of (m.functions i)));
    branch_hints = c.branch_hints ∙ (λ i. flat_map (λ (p : Index FuncSpace × FunctionType). branch_hint_rows p.0 (same.hints (number_of p.0) i)) (keyed index_of (m.functions i)));
    passive_segments = c.passive_segments
        ∙ found-told index_of passive_segment_row (λ k. refl) t.passive_elem_map u.passive_elem_map same.no_number.0 same.no_number.1 same.passive_numbers;
  }

  globals-tell : (r : PlanRecord) → TellsGlobals t r.globals → TellsGlobals u r.globals
  globals-tell r c = record {
    values = c.values ∙ ap (map global_value_row) m.global_initializers;
    expressed = c.expressed ∙ ap (map (λ g. number_of g.0)) same.global_initializers;
  }

  places-tell : (r : PlanRecord) → TellsPlaces t r.places → TellsPlaces u r.places
  places-tell r c = record {
    globals = subst (λ gs. TellsExpressions (λ g. g.1) gs r.places.globals) same.global_initializers c.globals;
    segments = subst (λ ss. TellsExpressions (λ s. offset_operators s.1) ss r.places.segments) planned c.segments;
    elements = expressions-told view_segment t.table_initialization.segments.items u.table_initialization.segments.items same.elements
        (λ s. s.offset) (λ v. v.offset) (λ s. refl) r.places.elements c.elements;
    tables = subst (λ vs. TellsExpressions value_operators vs r.places.tables) same.initial_values c.tables;
  }

  items-tell : (r : PlanRecord) → TellsItems t r.items → TellsItems u r.items
  items-tell r c = record {
    kept = items-told view_segment (λ s. s.elements) (λ v. v.items) (λ s. refl) t.table_initialization.segments.items u.table_initialization.segments.items
        same.elements r.items.kept c.kept;
    passive = items-told view_items (λ x. x) (λ v. v) (λ x. refl) t.passive_elements u.passive_elements same.passive_elements r.items.passive c.passive;
  }

  debug-tell : (r : PlanRecord) → TellsDebug t.debuginfo r.debug → TellsDebug u.debuginfo r.debug
  debug-tell r c =
      let before = t.debuginfo in
      let after = u.debuginfo in
      record {
        imports = c.imports ∙ same.imported_functions;
        names = c.names
            ∙ lines-told locals_named local_names names_by names-by before.name_section.locals_names.entries after.name_section.locals_names.entries same.locals_names;
        functions = c.functions ∙ ap (spans_from 0) (rows-told view_function (λ f. length f.locals.items) (λ f. length f.locals) count-runs
            before.wasm_file.funcs.items after.wasm_file.funcs.items same.metadata);
        locals = c.locals ∙ lines-told view_function (λ f. map metadata_run f.locals.items) runs_by runs-by
            before.wasm_file.funcs.items after.wasm_file.funcs.items same.metadata;
      }

-- ---- a plan

module _ (p q : Plan) (same : SamePlan p q) where
  abbrev pointer : pointer_of p.offsets ≡ pointer_of q.offsets
  pointer = λ i. (same.offsets i).ptr

  begins : (name : List ℕ) (begin : ℕ) → BeginsAt p.offsets name begin → BeginsAt q.offsets name begin
  begins name begin at =
      (λ i. option_map (λ placed. placed.begin) (entry_named name (context_entries (sym pointer i) (sym same.offsets i)))) ∙ at

  context-tells : (r : PlanRecord) → TellsContext p.offsets r.context → TellsContext q.offsets r.context
  context-tells r c = record {
    size = c.size ∙ (λ i. context_size (pointer i) (same.offsets i));
    imported_memories = begins (codes "imported memories") r.context.imported_memories c.imported_memories;
    memories = begins (codes "defined memories") r.context.memories c.memories;
    owned_memories = begins (codes "owned memories") r.context.owned_memories c.owned_memories;
    imported_functions = begins (codes "imported functions") r.context.imported_functions c.imported_functions;
    imported_tables = begins (codes "imported tables") r.context.imported_tables c.imported_tables;
    imported_globals = begins (codes "imported globals") r.context.imported_globals c.imported_globals;
    imported_tags = begins (codes "imported tags") r.context.imported_tags c.imported_tags;
    tables = begins (codes "defined tables") r.context.tables c.tables;
    globals = begins (codes "defined globals") r.context.globals c.globals;
    tags = begins (codes "defined tags") r.context.tags c.tags;
    func_refs = begins (codes "module functions") r.context.func_refs c.func_refs;
    runtime_data_bases = begins (codes "runtime data base pointers") r.context.runtime_data_bases c.runtime_data_bases;
    runtime_data_lengths = begins (codes "runtime data lengths") r.context.runtime_data_lengths c.runtime_data_lengths;
    startup_func_ref = λ runs. begins (codes "startup funcref") r.context.startup_func_ref
        (c.startup_func_ref (subst (λ fields. IsTrue fields.has_startup_func) (sym same.offsets) runs));
    no_startup = λ never. c.no_startup (subst (λ fields. IsFalse fields.has_startup_func) (sym same.offsets) never);
  }

  abbrev t : SameTranslation p.translation q.translation
  t = same.translation

  facts : facts_row p.translation p.types (pointer_of p.offsets) ≡ facts_row q.translation q.types (pointer_of q.offsets)
  facts = λ i. record {
    startup = (startup_row (t.module.startup i)).0;
    startup_type = (startup_row (t.module.startup i)).1;
    images_made = images_bit (t.module.memory_initialization i);
    types = length (same.types i).types;
    data_align = unwrap_or (t.data_align i) 0;
    start = start_number (t.start i);
    needs_gc_heap = bit (t.module.needs_gc_heap i);
    escaped = t.module.num_escaped_funcs i;
    code_section_offset = t.code_place i;
    module_offset = t.wasm_module_offset i;
    has_unparsed_debuginfo = bit (t.has_unparsed_debuginfo i);
    pointer = pointer i;
  }

  pub tell-alike : (r s : PlanRecord) → Tells p r → Tells q s → TellAlike q r s
  tell-alike r s c d =
      let x = p.translation in
      let y = q.translation in
      record {
        runtime = runtime-told x y t r s c.memories d.memories;
        rest = record {
          planned = c.planned;
          entities = c.entities ∙ entities-tell x.module y.module t.module;
          facts = c.facts ∙ facts;
          context = context-tells r c.context;
          types = types-tell x y t q.types r (subst (λ l. TellsTypes x l r.types) same.types c.types);
          kinds = kinds-tell x.module y.module t.module r c.kinds;
          memories = memories-tell x y t r s c.memories d.memories;
          tables = tables-tell x y t r c.tables;
          regions = c.regions ∙ (λ i. placed_back (context_size (pointer i) (same.offsets i)) (context_regions (pointer i) (same.offsets i)));
          functions = functions-tell x y t r c.functions;
          globals = globals-tell x y t r c.globals;
          places = places-tell x y t r c.places;
          names = names-tell x.module y.module t.module r c.names;
          module_text = c.module_text ∙ own-text x.module y.module t.module;
          layouts = layouts-tell p.layouts q.layouts same.layouts r.layouts c.layouts;
          interned = subst (λ l. TellsInterned l r.interned) same.types c.interned;
          structs = subst (λ n. TellsStructs n r.structs) pointer c.structs;
          items = items-tell x y t r c.items;
          bodies = bodies-tell x y t r.bodies c.bodies;
          debug = debug-tell x y t r c.debug;
        };
      }
