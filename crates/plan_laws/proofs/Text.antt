-- Plans that hold the same have one text.
use Rattle.std.proofs.Common.{◌≡◌, ◌∙◌, ℕ, ◌+◌, List, [], ◌∷◌, ◌++◌, length, map, Option, None, Some, refl, sym, ap}
use Rattle.std.specs.Prelude.{codes, decimal}
use Rattle.std.specs.List.{flat_map}
use Rattle.std.specs.Option.{option_map}
use Rattle.std.specs.Global.{Vec}
use Rattle.std.specs.declared.ops.Range.{Range}
use Rattle.std.proofs.lemmas.List.{length-map}
use Rattle.entity_map.specs.declared.pool.Atom.{Atom}
use Rattle.wasm_spec.specs.TypeData.{Reference}
use Rattle.wasm_index.specs.declared.index.Index.{Index}
use Rattle.wasm_index.specs.declared.spaces.DefinedTableSpace.{DefinedTableSpace}
use Rattle.wasm_index.specs.declared.spaces.FuncSpace.{FuncSpace}
use Rattle.wasm_index.specs.declared.spaces.MemorySpace.{MemorySpace}
use Rattle.wasm_index.specs.declared.spaces.ModuleInternedTypeSpace.{ModuleInternedTypeSpace}
use Rattle.wasm_index.specs.declared.spaces.RuntimeDataSpace.{RuntimeDataSpace}
use Rattle.wasm_index.specs.Index.{number_of, index_of}
use Rattle.wasm_types.specs.declared.entity.EntityIndex.{EntityIndex}
use Rattle.wasm_types.specs.ValueViews.{Name}
use Rattle.wasm_convert.specs.declared.operators.ConstOp.{ConstOp}
use Rattle.replay_spec.specs.Elements.{Items, Functions, Expressions, ActiveItems}
use Rattle.wasm_module.specs.Elements.{element_count}
use Rattle.wasm_module.specs.declared.function.FunctionType.{FunctionType}
use Rattle.wasm_module.specs.declared.initializer.Initializer.{Initializer}
use Rattle.wasm_module.specs.declared.initializer.Initializer.TheVariants.{Import}
use Rattle.wasm_module.specs.declared.module.Module.{Module}
use Rattle.wasm_module.specs.declared.table_initialization.TableSegment.{TableSegment}
use Rattle.wasm_module.specs.declared.table_initialization.TableSegmentElements.{TableSegmentElements}
use Rattle.wasm_module.specs.declared.table_initialization.TableSegmentElements.TheVariants as elements
use Rattle.gc_layout.specs.declared.object.GcLayout.{GcLayout}
use Rattle.gc_layout.specs.declared.object.GcLayout.TheVariants as layout
use Rattle.gc_layout.specs.Objects.{ObjectLayout, OfArray, OfFields, object_layout}
use Rattle.module_customs.specs.Names.{Text, named}
use Rattle.init_plan.specs.declared.translation.ModuleTranslation.{ModuleTranslation}
use Rattle.init_plan.specs.declared.translation.MemoryInit.{MemoryInit}
use Rattle.init_plan.specs.declared.translation.MemoryInit.TheVariants as init
use Rattle.init_plan.specs.declared.translation.MemorySegmentOffset.{MemorySegmentOffset}
use Rattle.module_sections.specs.Entities.{NamedEntity, text_at, resolved_import, resolved_export}
use Rattle.module_sections.specs.Initialisers.{view_items, view_segment}
use Rattle.vm_offsets.specs.Context.{context_size}
use Rattle.vm_offsets.specs.Regions.{context_regions}
use Rattle.plan_text.specs.declared.plan.Plan.{Plan}
use Rattle.plan_lines.specs.ContextLines.{region_line}
use Rattle.plan_lines.specs.Expressions.{expression_text}
use Rattle.plan_lines.specs.GlobalLines.{global_line, global_expression_line}
use Rattle.plan_lines.specs.HintLines.{hint_lines}
use Rattle.plan_lines.specs.LayoutLines.{array_layout_line, fields_layout_line, layout_lines}
use Rattle.plan_lines.specs.MemoryLines.{alignment_lines, passive_lines, runtime_line}
use Rattle.plan_lines.specs.ModuleLines.{initializer_line, initializer_lines_from, count_lines, gc_heap_line, escape_lines, start_lines, startup_line}
use Rattle.plan_lines.specs.NameLines.{entity_text, import_line, export_line, module_name_line, module_name_lines, function_name_line}
use Rattle.plan_lines.specs.Numbers.{numbers_line, counts_line, keyed_lines}
use Rattle.plan_lines.specs.Quoted.{quoted_text}
use Rattle.plan_lines.specs.SegmentLines.{table_value_lines, element_line, initialization_line, initialization_images, segment_line, segment_lines}
use Rattle.plan_lines.specs.TableLines.{table_image_lines, passive_element_line}
use Rattle.plan_lines.specs.TypeLines.{declared_line, signature_line}
use Rattle.plan_lines.specs.TypeListLines.{type_list_lines}
use Rattle.plan_text.specs.PlanText.{entities_text, names_text, tables_text, memories_text, sizes_text, text_of_plan}
use Rattle.plan_laws.specs.Same.{SameModule, SameTranslation, SamePlan, left_of}
use Rattle.plan_laws.proofs.Told.{lines-by, lines-told, keyed-told, found-told}

-- ---- imports and exports, by the texts of their names

imported_line : ℕ → NamedEntity → List ℕ
imported_line place x =
    codes "import " ++ decimal place ++ codes " " ++ quoted_text x.0 ++ codes " " ++ quoted_text x.1 ++ codes " " ++ entity_text x.2 ++ codes "\n"

import-by : (pool : List (List ℕ)) (place : ℕ) (x : Initializer) → initializer_line pool place x ≡ imported_line place (resolved_import pool x)
unfolding import_line imported_line
import-by pool place (Import name field e) = refl

imported_lines : ℕ → List NamedEntity → List ℕ
imported_lines n [] = []
imported_lines n (x ∷ xs) = imported_line n x ++ imported_lines (n + 1) xs

imports-by : (pool : List (List ℕ)) (n : ℕ) (xs : List Initializer) → initializer_lines_from pool n xs ≡ imported_lines n (map (resolved_import pool) xs)
unfolding imported_lines
imports-by pool n [] = refl
imports-by pool n (x ∷ xs) = λ i. import-by pool n x i ++ imports-by pool (n + 1) xs i

exported_line : List ℕ × EntityIndex → List ℕ
exported_line x = codes "export " ++ quoted_text x.0 ++ codes " " ++ entity_text x.1 ++ codes "\n"

export-by : (pool : List (List ℕ)) (x : Atom × EntityIndex) → export_line pool x.0 x.1 ≡ exported_line (resolved_export pool x)
unfolding export_line exported_line
export-by pool x = refl

named_lines : Option (List ℕ) → List ℕ
named_lines None = []
named_lines (Some text) = codes "name " ++ quoted_text text ++ codes "\n"

name-by : (pool : List (List ℕ)) (o : Option Atom) → module_name_lines pool o ≡ named_lines (option_map (text_at pool) o)
unfolding module_name_line named_lines
name-by pool None = refl
name-by pool (Some name) = refl

module _ (x y : Module) (same : SameModule x y) where
  import-lines : initializer_lines_from x.strings 0 x.initializers.items ≡ initializer_lines_from y.strings 0 y.initializers.items
  import-lines = imports-by x.strings 0 x.initializers.items ∙ ap (imported_lines 0) same.imports ∙ sym (imports-by y.strings 0 y.initializers.items)

  export-lines : flat_map (λ (e : Atom × EntityIndex). export_line x.strings e.0 e.1) x.exports.entries
      ≡ flat_map (λ (e : Atom × EntityIndex). export_line y.strings e.0 e.1) y.exports.entries
  export-lines =
      lines-by (resolved_export x.strings) _ exported_line (export-by x.strings) x.exports.entries ∙ ap (flat_map exported_line) same.exports
      ∙ sym (lines-by (resolved_export y.strings) _ exported_line (export-by y.strings) y.exports.entries)

  counts : count_lines x ≡ count_lines y
  unfolding count_lines
  counts = λ i.
      counts_line (codes "functions") (same.num_imported_funcs i) (length (same.functions i))
      ++ counts_line (codes "tables") (same.num_imported_tables i) (length (same.tables i))
      ++ counts_line (codes "memories") (same.num_imported_memories i) (length (same.memories i))
      ++ counts_line (codes "globals") (same.num_imported_globals i) (length (same.globals i))
      ++ counts_line (codes "tags") (same.num_imported_tags i) (length (same.tags i))

  name-lines : module_name_lines x.strings x.name ≡ module_name_lines y.strings y.name
  name-lines = name-by x.strings x.name ∙ ap named_lines same.name ∙ sym (name-by y.strings y.name)

-- ---- element segments

pub items_count : Items (Reference Name) (List ConstOp) → ℕ
items_count (Functions functions) = length functions
items_count (Expressions type expressions) = length expressions

pub count-by : (e : TableSegmentElements) → element_count e ≡ items_count (view_items e)
unfolding items_count
count-by (elements.Functions functions) = sym (length-map functions.items number_of)
count-by (elements.Expressions ty expressions) = refl

segment_by : ActiveItems (Reference Name) (List ConstOp) → List ℕ
segment_by s = codes "element " ++ decimal s.table ++ codes " " ++ decimal (items_count s.items) ++ codes " at " ++ expression_text s.offset ++ codes "\n"

element-by : (s : TableSegment) → element_line s ≡ segment_by (view_segment s)
unfolding element_line segment_by
element-by s = λ i. codes "element " ++ decimal (number_of s.table_index) ++ codes " " ++ decimal (count-by s.elements i) ++ codes " at " ++ expression_text s.offset ++ codes "\n"

-- ---- data segments

left_lines : List (Index MemorySpace × MemorySegmentOffset × Index RuntimeDataSpace) → List ℕ
left_lines xs = flat_map (λ s. segment_line (number_of s.0) (number_of s.2) s.1) xs

left-by : (m : MemoryInit) → segment_lines m ≡ left_lines (left_of m)
unfolding left_lines
left-by (init.Unprocessed segments) = refl
left-by (init.Processed segments) = refl

-- ---- layouts

layout_by : Index ModuleInternedTypeSpace → Option ObjectLayout → List ℕ
layout_by index None = []
layout_by index (Some (OfArray a)) = array_layout_line index a
layout_by index (Some (OfFields s)) = fields_layout_line index s

layout-by : (index : Index ModuleInternedTypeSpace) (o : Option GcLayout) → layout_lines index o ≡ layout_by index (option_map object_layout o)
unfolding layout_by
layout-by index None = refl
layout-by index (Some (layout.Array a)) = refl
layout-by index (Some (layout.Struct s)) = refl

-- ---- the parts of the text

module _ (t u : ModuleTranslation) (same : SameTranslation t u) where
  abbrev m : SameModule t.module u.module
  m = same.module

  entities : entities_text t ≡ entities_text u
  unfolding entities_text
  entities = λ i.
      keyed_lines declared_line (m.types i)
      ++ import-lines t.module u.module m i
      ++ counts t.module u.module m i
      ++ gc_heap_line (m.needs_gc_heap i)
      ++ keyed_lines escape_lines (m.functions i)
      ++ flat_map signature_line (same.signatures i)
      ++ export-lines t.module u.module m i

  function-names : flat_map (λ (name : Index FuncSpace × Text). function_name_line name.0 name.1.now) t.debuginfo.name_section.func_names.entries
      ≡ flat_map (λ (name : Index FuncSpace × Text). function_name_line name.0 name.1.now) u.debuginfo.name_section.func_names.entries
  function-names = lines-told named _ (λ x. function_name_line (index_of x.0) x.1) (λ x. refl)
      t.debuginfo.name_section.func_names.entries u.debuginfo.name_section.func_names.entries same.function_names

  names : names_text t ≡ names_text u
  unfolding names_text
  names = λ i.
      name-lines t.module u.module m i
      ++ function-names i
      ++ keyed_lines (λ (function : Index FuncSpace) (type : FunctionType). hint_lines function (same.hints (number_of function) i)) (m.functions i)

  image-lines : keyed_lines (λ (table : Index DefinedTableSpace) (image : Vec (Index FuncSpace)). table_image_lines table image.items) t.module.table_initialization
      ≡ keyed_lines (λ (table : Index DefinedTableSpace) (image : Vec (Index FuncSpace)). table_image_lines table image.items) u.module.table_initialization
  image-lines = keyed-told (λ image. image.items) index_of _ table_image_lines (λ table image. refl) t.module.table_initialization u.module.table_initialization m.table_images

  element-lines : flat_map element_line t.table_initialization.segments.items ≡ flat_map element_line u.table_initialization.segments.items
  element-lines = lines-told view_segment element_line segment_by element-by t.table_initialization.segments.items u.table_initialization.segments.items same.elements

  tables : tables_text t ≡ tables_text u
  unfolding tables_text
  tables = λ i.
      start_lines (same.start i)
      ++ flat_map (λ g. global_line g.0 g.1) (m.global_initializers i)
      ++ flat_map (λ g. global_expression_line g.0 g.1) (same.global_initializers i)
      ++ keyed_lines table_value_lines (same.initial_values i)
      ++ image-lines i
      ++ element-lines i
      ++ keyed_lines passive_element_line (m.passive_elements i)

  runtime-lines : keyed_lines runtime_line t.module.runtime_data ≡ keyed_lines runtime_line u.module.runtime_data
  runtime-lines = keyed-told (λ (range : Range ℕ). (range.start, range.end)) index_of runtime_line
      (λ index r. numbers_line (codes "runtime") (number_of index ∷ r.0 ∷ r.1 ∷ [])) (λ index range. refl) t.module.runtime_data u.module.runtime_data m.runtime_data

  segment-lines : segment_lines t.memory_init ≡ segment_lines u.memory_init
  segment-lines = left-by t.memory_init ∙ ap left_lines same.segments ∙ sym (left-by u.memory_init)

  memories : memories_text t ≡ memories_text u
  unfolding memories_text
  memories = λ i.
      initialization_line (m.memory_initialization i)
      ++ alignment_lines (same.data_align i)
      ++ initialization_images (m.memory_initialization i)
      ++ segment-lines i
      ++ found-told index_of passive_lines (λ k. refl) t.runtime_data_map u.runtime_data_map same.no_default.0 same.no_default.1 same.passive_data i
      ++ runtime-lines i

module _ (p q : Plan) (same : SamePlan p q) where
  layout-lines : keyed_lines layout_lines p.layouts ≡ keyed_lines layout_lines q.layouts
  layout-lines = keyed-told (option_map object_layout) index_of layout_lines layout_by layout-by p.layouts q.layouts same.layouts

  sizes : sizes_text p ≡ sizes_text q
  unfolding sizes_text
  sizes = λ i.
      startup_line (same.translation.module.startup i)
      ++ layout-lines i
      ++ flat_map region_line (context_regions (same.offsets i).ptr (same.offsets i))
      ++ numbers_line (codes "context") (context_size (same.offsets i).ptr (same.offsets i) ∷ [])

  pub same-text : text_of_plan p ≡ text_of_plan q
  unfolding text_of_plan
  same-text = λ i.
      type_list_lines (same.types i)
      ++ entities p.translation q.translation same.translation i
      ++ names p.translation q.translation same.translation i
      ++ tables p.translation q.translation same.translation i
      ++ memories p.translation q.translation same.translation i
      ++ sizes i
