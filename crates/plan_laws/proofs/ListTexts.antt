-- How many bytes the lines of lists have.
use Rattle.std.proofs.Common.{◌≡◌, ℕ, ◌+◌, ◌-◌, ◌*◌, ◌^◌, ◌<◌, ◌≤◌, List, [], ◌∷◌, ◌++◌, length, Bool, true, false, cond, Option, Some, None, refl, arith, length-append, lit≤}
use Rattle.std.specs.Prelude.{◌==◌, codes, decimal, All, IfSome, sum_by, count_by, is_some}
use Rattle.std.specs.Borrow.{Bor}
use Rattle.std.specs.Global.{Vec}
use Rattle.std.specs.List.{flat_map}
use Rattle.std.specs.declared.ops.Range.{Range}
use Rattle.std.proofs.lemmas.List.Elements.{All-head, All-tail, All-weaker, All-from_recursion}
use Rattle.std.proofs.lemmas.List.Sums.{sum_by-cons}
use Rattle.entity_map.specs.Entity.{reserved_number}
use Rattle.entity_map.specs.Keyed.{keyed, keyed_from}
use Rattle.entity_map.specs.declared.pool.Atom.{Atom}
use Rattle.wasm_index.specs.declared.index.Index.{Index}
use Rattle.wasm_index.specs.declared.spaces.DataSpace.{DataSpace}
use Rattle.wasm_index.specs.declared.spaces.DefinedGlobalSpace.{DefinedGlobalSpace}
use Rattle.wasm_index.specs.declared.spaces.DefinedTableSpace.{DefinedTableSpace}
use Rattle.wasm_index.specs.declared.spaces.FuncSpace.{FuncSpace}
use Rattle.wasm_index.specs.declared.spaces.MemorySpace.{MemorySpace}
use Rattle.wasm_index.specs.declared.spaces.ModuleInternedRecGroupSpace.{ModuleInternedRecGroupSpace}
use Rattle.wasm_index.specs.declared.spaces.ModuleInternedTypeSpace.{ModuleInternedTypeSpace}
use Rattle.wasm_index.specs.declared.spaces.RuntimeDataSpace.{RuntimeDataSpace}
use Rattle.wasm_index.specs.Index.{number_of, index_of}
use Rattle.wasm_types.specs.declared.entity.EntityIndex.{EntityIndex}
use Rattle.wasm_types.specs.declared.index.EngineOrModuleTypeIndex.{EngineOrModuleTypeIndex}
use Rattle.wasm_types.specs.declared.sub.WasmSubType.{WasmSubType}
use Rattle.wasm_types.specs.declared.value.WasmRefType.{WasmRefType}
use Rattle.wasm_types.specs.Texts.{sub_text}
use Rattle.wasm_convert.specs.declared.operators.ConstOp.{ConstOp}
use Rattle.wasm_convert.specs.declared.values.GlobalConstValue.{GlobalConstValue}
use Rattle.wasm_module.specs.declared.function.FunctionType.{FunctionType}
use Rattle.wasm_module.specs.declared.initializer.Initializer.{Initializer}
use Rattle.wasm_module.specs.declared.initializer.Initializer.TheVariants.{Import}
use Rattle.wasm_module.specs.declared.memory_initialization.MemoryInitialization.{MemoryInitialization}
use Rattle.wasm_module.specs.declared.memory_initialization.MemoryInitialization.TheVariants as initialization
use Rattle.wasm_module.specs.declared.startup.ModuleStartup.{ModuleStartup}
use Rattle.wasm_module.specs.declared.startup.ModuleStartup.TheVariants as startup
use Rattle.wasm_module.specs.declared.table_initialization.TableInitialValue.{TableInitialValue}
use Rattle.wasm_module.specs.declared.table_initialization.TableInitialValue.TheVariants as initial
use Rattle.wasm_module.specs.declared.table_initialization.TableSegment.{TableSegment}
use Rattle.wasm_module.specs.Elements.{element_count}
use Rattle.wasm_module.specs.declared.module.Module.{Module}
use Rattle.gc_layout.specs.declared.object.GcLayout.{GcLayout}
use Rattle.gc_layout.specs.declared.object.GcLayout.TheVariants as layout
use Rattle.init_plan.specs.declared.debug_info.BranchHint.{BranchHint}
use Rattle.init_plan.specs.declared.translation.MemorySegmentOffset.{MemorySegmentOffset}
use Rattle.init_plan.specs.declared.translation.MemorySegmentOffset.TheVariants as offset
use Rattle.init_plan.specs.declared.translation.ModuleTranslation.{ModuleTranslation}
use Rattle.module_types.specs.TypeList.{TypeList, called_from}
use Rattle.module_types.specs.Views.{TypeIndex}
use Rattle.vm_offsets.specs.declared.fields.VMOffsetsFields.{VMOffsetsFields}
use Rattle.vm_offsets.specs.Context.{context_entries, context_table}
use Rattle.vm_offsets.specs.Regions.{context_regions}
use Rattle.plan_lines.specs.ContextLines.{region_line}
use Rattle.plan_lines.specs.Expressions.{expression_text}
use Rattle.plan_lines.specs.GlobalLines.{global_line, global_expression_line}
use Rattle.plan_lines.specs.HintLines.{hint_lines, function_hints}
use Rattle.plan_lines.specs.LayoutLines.{layout_lines}
use Rattle.plan_lines.specs.MemoryLines.{alignment_lines, image_lines, passive_lines, runtime_line}
use Rattle.plan_lines.specs.ModuleLines.{initializer_line, initializer_lines_from, count_lines, gc_heap_line, escape_lines, start_lines, startup_line}
use Rattle.plan_lines.specs.NameLines.{kind_number, export_line, module_name_lines, function_name_line}
use Rattle.plan_lines.specs.Numbers.{numbers_line, counts_line, keyed_lines}
use Rattle.plan_lines.specs.SegmentLines.{table_expression_line, table_value_lines, element_line, initialization_line, offset_text, segment_line}
use Rattle.plan_lines.specs.TableLines.{table_image_lines, passive_element_line}
use Rattle.plan_lines.specs.TypeLines.{listed_number, declared_line, signature_line, type_line}
use Rattle.plan_lines.specs.TypeListLines.{type_lines_from, group_line, type_list_lines}
use Rattle.plan_laws.specs.TextCosts.{type_parts, value_operators, place_operators, layout_fields, name_bytes, import_bytes, module_name_bytes}
use Rattle.plan_laws.specs.Widths.{ImportFits, StartupFits, GlobalFits, FirstFits, InitialFits, TableImageFits, ElementsFit, PassiveFits, MemoryFits, PlaceFits, SegmentFits, RangeFits, LayoutFits}
use Rattle.plan_laws.proofs.Lengths.{decimal-narrow, decimal-wide, append-short, flat-each, flat-short, keyed-plain, keyed-short, keyed-each}
use Rattle.plan_laws.proofs.LineTexts.{one-number, two-numbers, three-numbers, type-line-short, import-short, export-short, module-name-short, function-name-short, global-short, global-expression-short, ends-with, image-short, passive-element-short, array-layout-short, fields-layout-short, region-short}

-- a number of 32 bits has 64
wide : (n : ℕ) → n < 2 ^ 32 → n < 2 ^ 64
wide n h = omega arith

-- ---- types

type-lines-short : (n : ℕ) (types : List WasmSubType) (trampolines : List (Option TypeIndex)) → n + length types ≤ 2 ^ 32
    → All (λ ty. length (sub_text ty) ≤ 72 + 46 * type_parts ty) types → All (λ called. number_of called.1 < 2 ^ 32) (called_from n trampolines)
    → length (type_lines_from n types trampolines) ≤ 111 * length types + 46 * sum_by type_parts types
type-lines-short n [] trampolines few texts called = omega arith
type-lines-short n (ty ∷ types) [] few texts called =
    let one : length (type_line (index_of n) ty None) ≤ 39 + (72 + 46 * type_parts ty) = type-line-short (index_of n) ty None (72 + 46 * type_parts ty) (omega arith)
    (All-head (λ x. length (sub_text x) ≤ 72 + 46 * type_parts x) ty types texts) tt in
    let others : length (type_lines_from (n + 1) types []) ≤ 111 * length types + 46 * sum_by type_parts types = type-lines-short (n + 1) types [] (omega arith)
    (All-tail (λ x. length (sub_text x) ≤ 72 + 46 * type_parts x) ty types texts) (λ k d lt. absurd (omega arith)) in
    let both : length (type_line (index_of n) ty None ++ type_lines_from (n + 1) types []) ≤ 39 + (72 + 46 * type_parts ty) + (111 * length types + 46 * sum_by type_parts types)
    = append-short (type_line (index_of n) ty None) (type_lines_from (n + 1) types []) _ _ one others in
    omega (arith, both, sum_by-cons type_parts ty types)
type-lines-short n (ty ∷ types) (None ∷ trampolines) few texts called =
    let one : length (type_line (index_of n) ty None) ≤ 39 + (72 + 46 * type_parts ty) = type-line-short (index_of n) ty None (72 + 46 * type_parts ty) (omega arith)
    (All-head (λ x. length (sub_text x) ≤ 72 + 46 * type_parts x) ty types texts) tt in
    let others : length (type_lines_from (n + 1) types trampolines) ≤ 111 * length types + 46 * sum_by type_parts types = type-lines-short (n + 1) types trampolines (omega arith)
    (All-tail (λ x. length (sub_text x) ≤ 72 + 46 * type_parts x) ty types texts) called in
    let both : length (type_line (index_of n) ty None ++ type_lines_from (n + 1) types trampolines) ≤ 39 + (72 + 46 * type_parts ty) + (111 * length types + 46 * sum_by type_parts types)
    = append-short (type_line (index_of n) ty None) (type_lines_from (n + 1) types trampolines) _ _ one others in
    omega (arith, both, sum_by-cons type_parts ty types)
type-lines-short n (ty ∷ types) (Some k ∷ trampolines) few texts called =
    let one : length (type_line (index_of n) ty (Some k)) ≤ 39 + (72 + 46 * type_parts ty) = type-line-short (index_of n) ty (Some k) (72 + 46 * type_parts ty) (omega arith)
    (All-head (λ x. length (sub_text x) ≤ 72 + 46 * type_parts x) ty types texts)
    (All-head (λ (x : TypeIndex × TypeIndex). number_of x.1 < 2 ^ 32) (index_of n, k) (called_from (n + 1) trampolines) called) in
    let others : length (type_lines_from (n + 1) types trampolines) ≤ 111 * length types + 46 * sum_by type_parts types = type-lines-short (n + 1) types trampolines (omega arith)
    (All-tail (λ x. length (sub_text x) ≤ 72 + 46 * type_parts x) ty types texts)
    (All-tail (λ (x : TypeIndex × TypeIndex). number_of x.1 < 2 ^ 32) (index_of n, k) (called_from (n + 1) trampolines) called) in
    let both : length (type_line (index_of n) ty (Some k) ++ type_lines_from (n + 1) types trampolines) ≤ 39 + (72 + 46 * type_parts ty) + (111 * length types + 46 * sum_by type_parts types)
    = append-short (type_line (index_of n) ty (Some k)) (type_lines_from (n + 1) types trampolines) _ _ one others in
    omega (arith, both, sum_by-cons type_parts ty types)

pub type-list-short : (l : TypeList) → length l.types < 2 ^ 32 → All (λ ty. length (sub_text ty) ≤ 72 + 46 * type_parts ty) l.types
    → All (λ called. number_of called.1 < 2 ^ 32) (called_from 0 l.trampolines) → length (keyed_lines group_line l.groups) ≤ 128 * length l.groups
    → length (type_list_lines l) ≤ 128 * (1 + length l.types + length l.groups) + 48 * sum_by type_parts l.types
unfolding type_list_lines
type-list-short l few texts called groups =
    let count : length (numbers_line (codes "types") (length l.types ∷ [])) ≤ 27 = one-number (codes "types") (length l.types) (omega arith) in
    let types : length (type_lines_from 0 l.types l.trampolines) ≤ 111 * length l.types + 46 * sum_by type_parts l.types
    = type-lines-short 0 l.types l.trampolines (omega arith) texts called in
    let all = append-short (numbers_line (codes "types") (length l.types ∷ []) ++ type_lines_from 0 l.types l.trampolines) (keyed_lines group_line l.groups)
    (27 + (111 * length l.types + 46 * sum_by type_parts l.types)) (128 * length l.groups)
    (append-short (numbers_line (codes "types") (length l.types ∷ [])) (type_lines_from 0 l.types l.trampolines) 27 (111 * length l.types + 46 * sum_by type_parts l.types) count types) groups in
    omega (arith, all)

pub group-line-short : (index : Index ModuleInternedRecGroupSpace) (range : Range TypeIndex) → number_of index < 2 ^ 32 → number_of range.start < 2 ^ 32 → number_of range.end < 2 ^ 32
    → length (group_line index range) ≤ 128
group-line-short index range h i j =
    omega (arith, three-numbers (codes "group") (number_of index) (number_of range.start) (number_of range.end) (wide _ h) (wide _ i) (wide _ j))

pub group-lines-short : (groups : List (Range TypeIndex)) → All (λ (p : Index ModuleInternedRecGroupSpace × Range TypeIndex). length (group_line p.0 p.1) ≤ 128) (keyed index_of groups)
    → length (keyed_lines group_line groups) ≤ 128 * length groups
group-lines-short groups all = keyed-each group_line 128 groups all

-- ---- entities

pub declared-lines-short : (types : List EngineOrModuleTypeIndex) → length types < 2 ^ 32 → All (λ i. listed_number i < 2 ^ 32) types
    → length (keyed_lines declared_line types) ≤ 128 * length types
declared-lines-short types few all =
    keyed-plain declared_line 128 (λ i. listed_number i < 2 ^ 32) types few
    (λ index i h k. let one : length (declared_line index i) ≤ 51 = two-numbers (codes "declared") (number_of index) (listed_number i) (wide _ h) (wide _ k) in omega (arith, one)) all

pub import-lines-short : (pool : List (List ℕ)) (n : ℕ) (imports : List Initializer) → n + length imports ≤ 2 ^ 64 → All ImportFits imports
    → length (initializer_lines_from pool n imports) ≤ 128 * length imports + 3 * sum_by (import_bytes pool) imports
import-lines-short pool n [] few all = omega arith
import-lines-short pool n (Import name field e ∷ imports) few all =
    let one : length (initializer_line pool n (Import name field e)) ≤ 54 + 3 * (name_bytes pool name + name_bytes pool field)
    = import-short pool n name field e (omega arith) (All-head ImportFits (Import name field e) imports all) in
    let others : length (initializer_lines_from pool (n + 1) imports) ≤ 128 * length imports + 3 * sum_by (import_bytes pool) imports
    = import-lines-short pool (n + 1) imports (omega arith) (All-tail ImportFits (Import name field e) imports all) in
    let both = append-short (initializer_line pool n (Import name field e)) (initializer_lines_from pool (n + 1) imports)
    (54 + 3 * (name_bytes pool name + name_bytes pool field)) (128 * length imports + 3 * sum_by (import_bytes pool) imports) one others in
    omega (arith, both, sum_by-cons (import_bytes pool) (Import name field e) imports)

pub count-lines-short : (m : Module) → m.num_imported_funcs < 2 ^ 64 → m.num_imported_tables < 2 ^ 64 → m.num_imported_memories < 2 ^ 64 → m.num_imported_globals < 2 ^ 64
    → m.num_imported_tags < 2 ^ 64 → length m.functions < 2 ^ 32 → length m.tables < 2 ^ 32 → length m.memories < 2 ^ 32 → length m.globals < 2 ^ 32 → length m.tags < 2 ^ 32
    → length (count_lines m) ≤ 640
unfolding count_lines
count-lines-short m a b c d e f g h i j =
    five (counts_line (codes "functions") m.num_imported_funcs (length m.functions)) (counts_line (codes "tables") m.num_imported_tables (length m.tables))
    (counts_line (codes "memories") m.num_imported_memories (length m.memories)) (counts_line (codes "globals") m.num_imported_globals (length m.globals))
    (counts_line (codes "tags") m.num_imported_tags (length m.tags))
    (one (codes "functions") _ _ (lit≤ tt) a f) (one (codes "tables") _ _ (lit≤ tt) b g) (one (codes "memories") _ _ (lit≤ tt) c h) (one (codes "globals") _ _ (lit≤ tt) d i)
    (one (codes "tags") _ _ (lit≤ tt) e j) where
      one : (word : List ℕ) (imported all : ℕ) → length word ≤ 9 → imported < 2 ^ 64 → all < 2 ^ 32 → length (counts_line word imported all) ≤ 52
      one word imported all short k l = omega (arith, two-numbers word imported (all - imported) k (omega arith), short)

      five : (v w x y z : List ℕ) → length v ≤ 52 → length w ≤ 52 → length x ≤ 52 → length y ≤ 52 → length z ≤ 52 → length (v ++ w ++ x ++ y ++ z) ≤ 640
      five v w x y z k l m n o = simp length-append (omega (arith, k, l, m, n, o))

escape-short : (index : Index FuncSpace) (f : FunctionType) → number_of index < 2 ^ 32 → number_of f.func_ref < 2 ^ 32 → length (escape_lines index f) ≤ 128
escape-short index f h i = by (number_of f.func_ref == reserved_number) where
  line : length (numbers_line (codes "escape") (number_of index ∷ number_of f.func_ref ∷ [])) ≤ 49
  line = two-numbers (codes "escape") (number_of index) (number_of f.func_ref) (wide _ h) (wide _ i)

  by : (reserved : Bool) → length (cond reserved [] (numbers_line (codes "escape") (number_of index ∷ number_of f.func_ref ∷ []))) ≤ 128
  by true = omega arith
  by false = omega (arith, line)

pub escape-lines-short : (functions : List FunctionType) → length functions < 2 ^ 32 → All (λ f. number_of f.func_ref < 2 ^ 32) functions
    → length (keyed_lines escape_lines functions) ≤ 128 * length functions
escape-lines-short functions few all = keyed-plain escape_lines 128 (λ f. number_of f.func_ref < 2 ^ 32) functions few escape-short all

pub signature-lines-short : (signatures : List (Index ModuleInternedTypeSpace)) → All (λ i. number_of i < 2 ^ 32) signatures
    → length (flat_map signature_line signatures) ≤ 128 * length signatures
signature-lines-short signatures all =
    flat-each signature_line 128 signatures (All-weaker (λ i. number_of i < 2 ^ 32) (λ i. length (signature_line i) ≤ 128)
    (λ i h. let one : length (signature_line i) ≤ 31 = one-number (codes "signature") (number_of i) (wide _ h) in omega (arith, one)) signatures all)

pub export-lines-short : (pool : List (List ℕ)) (exports : List (Atom × EntityIndex)) → All (λ (export : Atom × EntityIndex). kind_number export.1 < 2 ^ 32) exports
    → length (flat_map (λ (export : Atom × EntityIndex). export_line pool export.0 export.1) exports)
    ≤ 128 * length exports + 3 * sum_by (λ (export : Atom × EntityIndex). name_bytes pool export.0) exports
export-lines-short pool exports all =
    flat-short (λ (x : Atom × EntityIndex). export_line pool x.0 x.1) (λ (x : Atom × EntityIndex). name_bytes pool x.0) 128 3 exports
    (All-weaker (λ (x : Atom × EntityIndex). kind_number x.1 < 2 ^ 32) (λ (x : Atom × EntityIndex). length (export_line pool x.0 x.1) ≤ 128 + 3 * name_bytes pool x.0)
    (λ x h. omega (arith, export-short pool x.0 x.1 h)) exports all)

pub hint-short : (function : Index FuncSpace) (hints : Option (List BranchHint)) → number_of function < 2 ^ 32 → IfSome hints (λ list. length list < 2 ^ 64)
    → length (hint_lines function hints) ≤ 128
hint-short function None h i = omega arith
hint-short function (Some hints) h i = omega (arith, two-numbers (codes "hints") (number_of function) (length hints) (wide _ h) i)

pub hint-lines-short : (t : ModuleTranslation) (functions : List FunctionType) → All (λ (p : Index FuncSpace × FunctionType). length (function_hints t p.0 p.1) ≤ 128) (keyed index_of functions)
    → length (keyed_lines (function_hints t) functions) ≤ 128 * length functions
hint-lines-short t functions all = keyed-each (function_hints t) 128 functions all

pub heap-line-short : (needed : Bool) → length (gc_heap_line needed) ≤ 128
heap-line-short true = lit≤ tt
heap-line-short false = lit≤ tt

pub start-short : (function : Option (Index FuncSpace)) → IfSome function (λ i. number_of i < 2 ^ 32) → length (start_lines function) ≤ 128
start-short None h = omega arith
start-short (Some function) h = omega (arith, one-number (codes "start") (number_of function) (wide _ h))

pub startup-short : (s : ModuleStartup) → StartupFits s → length (startup_line s) ≤ 128
startup-short startup.None h = lit≤ tt
startup-short (startup.Always ty) h = omega (arith, one-number (codes "startup always") (listed_number ty) (wide _ h))
startup-short (startup.IfMemoriesNeedInit ty) h = omega (arith, one-number (codes "startup if-memories-need-init") (listed_number ty) (wide _ h))

-- ---- globals and tables

pub global-lines-short : (globals : List (Index DefinedGlobalSpace × GlobalConstValue)) → All GlobalFits globals
    → length (flat_map (λ (g : Index DefinedGlobalSpace × GlobalConstValue). global_line g.0 g.1) globals) ≤ 128 * length globals
global-lines-short globals all =
    flat-each (λ (g : Index DefinedGlobalSpace × GlobalConstValue). global_line g.0 g.1) 128 globals
    (All-weaker GlobalFits (λ (g : Index DefinedGlobalSpace × GlobalConstValue). length (global_line g.0 g.1) ≤ 128)
    (λ g fits. omega (arith, global-short g.0 g.1 fits.index fits.value)) globals all)

pub first-lines-short : (globals : List (Index DefinedGlobalSpace × List ConstOp)) → All FirstFits globals
    → length (flat_map (λ (g : Index DefinedGlobalSpace × List ConstOp). global_expression_line g.0 g.1) globals)
    ≤ 128 * length globals + 48 * sum_by (λ (g : Index DefinedGlobalSpace × List ConstOp). length g.1) globals
first-lines-short globals all =
    flat-short (λ (g : Index DefinedGlobalSpace × List ConstOp). global_expression_line g.0 g.1) (λ (g : Index DefinedGlobalSpace × List ConstOp). length g.1) 128 48 globals
    (All-weaker FirstFits (λ (g : Index DefinedGlobalSpace × List ConstOp). length (global_expression_line g.0 g.1) ≤ 128 + 48 * length g.1)
    (λ g fits. omega (arith, global-expression-short g.0 g.1 fits.index fits.value.short)) globals all)

initial-short : (table : Index DefinedTableSpace) (v : TableInitialValue) → number_of table < 2 ^ 32 → InitialFits v → length (table_value_lines table v) ≤ 128 + 48 * value_operators v
unfolding table_expression_line
initial-short table initial.Null h i = omega arith
initial-short table (initial.Expr e) h i = omega (arith, ends-with (codes "table-expr") (number_of table) (47 * length e) (expression_text e) h i.short)

pub initial-lines-short : (values : List TableInitialValue) → length values < 2 ^ 32 → All InitialFits values
    → length (keyed_lines table_value_lines values) ≤ 128 * length values + 48 * sum_by value_operators values
initial-lines-short values few all = keyed-short table_value_lines value_operators 128 48 InitialFits values few initial-short all

pub image-lines-short : (images : List (Vec (Index FuncSpace))) → length images < 2 ^ 32 → All TableImageFits images
    → length (keyed_lines (λ (table : Index DefinedTableSpace) (image : Vec (Index FuncSpace)). table_image_lines table image.items) images)
    ≤ 128 * length images + 11 * sum_by (λ (image : Vec (Index FuncSpace)). length image.items) images
image-lines-short images few all =
    keyed-short (λ (table : Index DefinedTableSpace) (image : Vec (Index FuncSpace)). table_image_lines table image.items) (λ (image : Vec (Index FuncSpace)). length image.items) 128 11 TableImageFits
    images few (λ table image h fits. omega (arith, image-short table image.items h fits.count fits.cells)) all

element-short : (s : TableSegment) → ElementsFit s → length (element_line s) ≤ 128 + 48 * length s.offset
unfolding element_line
element-short s fits = element-of (expression_text s.offset) fits.place.short where
  element-of : (text : List ℕ) → length text ≤ 47 * length s.offset
      → length (codes "element " ++ decimal (number_of s.table_index) ++ codes " " ++ decimal (element_count s.elements) ++ codes " at " ++ text ++ codes "\n") ≤ 128 + 48 * length s.offset
  element-of text h = simp length-append (omega (arith, h, decimal-narrow (number_of s.table_index) fits.table, decimal-wide (element_count s.elements) fits.count))

pub element-lines-short : (segments : List TableSegment) → All ElementsFit segments
    → length (flat_map element_line segments) ≤ 128 * length segments + 48 * sum_by (λ (s : TableSegment). length s.offset) segments
element-lines-short segments all =
    flat-short element_line (λ (s : TableSegment). length s.offset) 128 48 segments
    (All-weaker ElementsFit (λ (s : TableSegment). length (element_line s) ≤ 128 + 48 * length s.offset) element-short segments all)

pub passive-lines-short : (elements : List (WasmRefType × ℕ)) → length elements < 2 ^ 32 → All PassiveFits elements
    → length (keyed_lines passive_element_line elements) ≤ 128 * length elements
passive-lines-short elements few all =
    keyed-plain passive_element_line 128 PassiveFits elements few
    (λ index e h fits. let one : length (passive_element_line index e) ≤ 88 = passive-element-short index e.0 e.1 h fits.type fits.count in omega (arith, one)) all

-- ---- memories

memory-short : (memory : Index MemorySpace) (image : Option (ℕ × Index RuntimeDataSpace)) → number_of memory < 2 ^ 32 → MemoryFits image → length (image_lines memory image) ≤ 128
memory-short memory None h i = omega arith
memory-short memory (Some image) h i = omega (arith, three-numbers (codes "image") (number_of memory) image.0 (number_of image.1) (wide _ h) i.0 (wide _ i.1))

pub memory-lines-short : (images : List (Option (ℕ × Index RuntimeDataSpace))) → length images < 2 ^ 32 → All MemoryFits images
    → length (keyed_lines image_lines images) ≤ 128 * length images
memory-lines-short images few all = keyed-plain image_lines 128 MemoryFits images few memory-short all

place-short : (place : MemorySegmentOffset) → PlaceFits place → length (offset_text place) ≤ 27 + 48 * place_operators place
place-short (offset.Expr e) h = omega (arith, h.short)
place-short (offset.Static place) h = simp length-append (omega (arith, decimal-wide place h))

segment-short : (s : Index MemorySpace × MemorySegmentOffset × Index RuntimeDataSpace) → SegmentFits s → length (segment_line (number_of s.0) (number_of s.2) s.1) ≤ 128 + 48 * place_operators s.1
unfolding segment_line
segment-short s fits = segment-of (offset_text s.1) (place-short s.1 fits.place) where
  segment-of : (text : List ℕ) → length text ≤ 27 + 48 * place_operators s.1
      → length (codes "segment " ++ decimal (number_of s.0) ++ codes " " ++ decimal (number_of s.2) ++ codes " at " ++ text ++ codes "\n") ≤ 128 + 48 * place_operators s.1
  segment-of text h = simp length-append (omega (arith, h, decimal-narrow (number_of s.0) fits.memory, decimal-narrow (number_of s.2) fits.index))

pub segment-lines-short : (segments : List (Index MemorySpace × MemorySegmentOffset × Index RuntimeDataSpace)) → All SegmentFits segments
    → length (flat_map (λ (s : Index MemorySpace × MemorySegmentOffset × Index RuntimeDataSpace). segment_line (number_of s.0) (number_of s.2) s.1) segments)
    ≤ 128 * length segments + 48 * sum_by (λ (s : Index MemorySpace × MemorySegmentOffset × Index RuntimeDataSpace). place_operators s.1) segments
segment-lines-short segments all =
    flat-short (λ (s : Index MemorySpace × MemorySegmentOffset × Index RuntimeDataSpace). segment_line (number_of s.0) (number_of s.2) s.1)
    (λ (s : Index MemorySpace × MemorySegmentOffset × Index RuntimeDataSpace). place_operators s.1) 128 48 segments
    (All-weaker SegmentFits (λ (s : Index MemorySpace × MemorySegmentOffset × Index RuntimeDataSpace). length (segment_line (number_of s.0) (number_of s.2) s.1) ≤ 128 + 48 * place_operators s.1)
    segment-short segments all)

pub initialization-short : (m : MemoryInitialization) → length (initialization_line m) ≤ 128
initialization-short initialization.Segmented = lit≤ tt
initialization-short (initialization.Static images) = lit≤ tt

pub passive-data-short : (segment : Index DataSpace) (index : Option (Index RuntimeDataSpace)) → number_of segment < 2 ^ 32 → IfSome index (λ i. number_of i < 2 ^ 32)
    → length (passive_lines segment index) ≤ 128
passive-data-short segment None h i = omega arith
passive-data-short segment (Some index) h i = omega (arith, two-numbers (codes "passive-data") (number_of segment) (number_of index) (wide _ h) (wide _ i))

-- those that are not found have no line
passive-from : (n : ℕ) (places : List (Option (Index RuntimeDataSpace)))
    → All (λ (p : Index DataSpace × Option (Index RuntimeDataSpace)). length (passive_lines p.0 p.1) ≤ 128) (keyed_from index_of n places)
    → length (flat_map (λ (p : Index DataSpace × Option (Index RuntimeDataSpace)). passive_lines p.0 p.1) (keyed_from index_of n places)) ≤ 128 * count_by is_some places
passive-from n [] all = omega arith
passive-from n (None ∷ places) all =
    let P : Index DataSpace × Option (Index RuntimeDataSpace) → Type 0 = λ p. length (passive_lines p.0 p.1) ≤ 128 in
    omega (
      arith,
      passive-from (n + 1) places (All-tail P (index_of n, None) (keyed_from index_of (n + 1) places) all),
      sum_by-cons (λ (o : Option (Index RuntimeDataSpace)). cond (is_some o) 1 0) None places,
    )
passive-from n (Some k ∷ places) all =
    let P : Index DataSpace × Option (Index RuntimeDataSpace) → Type 0 = λ p. length (passive_lines p.0 p.1) ≤ 128 in
    let one : length (passive_lines (index_of n) (Some k)) ≤ 128 = All-head P (index_of n, Some k) (keyed_from index_of (n + 1) places) all in
    omega (
      arith,
      one,
      length-append (passive_lines (index_of n) (Some k)) (flat_map (λ (p : Index DataSpace × Option (Index RuntimeDataSpace)). passive_lines p.0 p.1) (keyed_from index_of (n + 1) places)),
      passive-from (n + 1) places (All-tail P (index_of n, Some k) (keyed_from index_of (n + 1) places) all),
      sum_by-cons (λ (o : Option (Index RuntimeDataSpace)). cond (is_some o) 1 0) (Some k) places,
    )

pub passive-data-lines-short : (places : List (Option (Index RuntimeDataSpace)))
    → All (λ (p : Index DataSpace × Option (Index RuntimeDataSpace)). length (passive_lines p.0 p.1) ≤ 128) (keyed index_of places)
    → length (keyed_lines passive_lines places) ≤ 128 * count_by is_some places
passive-data-lines-short places all = passive-from 0 places all

pub alignment-short : (align : Option ℕ) → IfSome align (λ n. n < 2 ^ 64) → length (alignment_lines align) ≤ 128
alignment-short None h = omega arith
alignment-short (Some align) h = omega (arith, one-number (codes "data-align") align h)

pub runtime-lines-short : (ranges : List (Range ℕ)) → length ranges < 2 ^ 32 → All RangeFits ranges → length (keyed_lines runtime_line ranges) ≤ 128 * length ranges
runtime-lines-short ranges few all =
    keyed-plain runtime_line 128 RangeFits ranges few
    (λ index range h fits. let one : length (runtime_line index range) ≤ 71 = three-numbers (codes "runtime") (number_of index) range.start range.end (wide _ h) (wide _ fits.start) (wide _ fits.end) in
    omega (arith, one)) all

-- ---- layouts

layout-short : (index : Index ModuleInternedTypeSpace) (o : Option GcLayout) → number_of index < 2 ^ 32 → LayoutFits o → length (layout_lines index o) ≤ 128 + 48 * layout_fields o
layout-short index None h i = omega arith
layout-short index (Some (layout.Array a)) h i = omega (arith, array-layout-short index a h i.base i.align i.element)
layout-short index (Some (layout.Struct s)) h i = omega (arith, fields-layout-short index s.value h i.size i.align i.fields)

pub layout-lines-short : (layouts : List (Option GcLayout)) → length layouts < 2 ^ 32 → All LayoutFits layouts
    → length (keyed_lines layout_lines layouts) ≤ 128 * length layouts + 48 * sum_by layout_fields layouts
layout-lines-short layouts few all = keyed-short layout_lines layout_fields 128 48 LayoutFits layouts few layout-short all

-- ---- regions, which have fixed descriptions

descriptions-short : {P : Type 0} (pointer : ℕ) (c : VMOffsetsFields P) → All (λ (region : List ℕ × ℕ). length region.0 ≤ 32) (context_regions pointer c)
unfolding context_entries context_table
descriptions-short pointer c =
    All-from_recursion (λ (region : List ℕ × ℕ). length region.0 ≤ 32) (context_regions pointer c)
    (lit≤ tt, (lit≤ tt, (lit≤ tt, (lit≤ tt, (lit≤ tt, (lit≤ tt, (lit≤ tt, (lit≤ tt, (lit≤ tt, (lit≤ tt, (lit≤ tt, (lit≤ tt, (lit≤ tt, (lit≤ tt, (lit≤ tt, tt)))))))))))))))

fifteen : {P : Type 0} (pointer : ℕ) (c : VMOffsetsFields P) → length (context_regions pointer c) ≡ 15
unfolding context_entries context_table
fifteen pointer c = refl

pub region-lines-short : {P : Type 0} (pointer : ℕ) (c : VMOffsetsFields P) → All (λ (region : List ℕ × ℕ). region.1 < 2 ^ 32) (context_regions pointer c)
    → length (flat_map region_line (context_regions pointer c)) ≤ 1920
region-lines-short pointer c sizes =
    let short : length (flat_map region_line (context_regions pointer c)) ≤ 128 * length (context_regions pointer c)
    = flat-each region_line 128 (context_regions pointer c)
    (λ k d lt. let one = region-short _ _ (descriptions-short pointer c k d lt) (sizes k d lt) in omega (arith, one)) in
    rw (fifteen pointer c) at short

-- ---- names

pub name-lines-short : (names : List (Index FuncSpace × Bor (List ℕ))) → All (λ (name : Index FuncSpace × Bor (List ℕ)). number_of name.0 < 2 ^ 32) names
    → length (flat_map (λ (name : Index FuncSpace × Bor (List ℕ)). function_name_line name.0 name.1.now) names)
    ≤ 128 * length names + 3 * sum_by (λ (name : Index FuncSpace × Bor (List ℕ)). length name.1.now) names
name-lines-short names all =
    flat-short (λ (x : Index FuncSpace × Bor (List ℕ)). function_name_line x.0 x.1.now) (λ (x : Index FuncSpace × Bor (List ℕ)). length x.1.now) 128 3 names
    (All-weaker (λ (x : Index FuncSpace × Bor (List ℕ)). number_of x.0 < 2 ^ 32) (λ (x : Index FuncSpace × Bor (List ℕ)). length (function_name_line x.0 x.1.now) ≤ 128 + 3 * length x.1.now)
    (λ x h. omega (arith, function-name-short x.0 x.1.now h)) names all)

pub module-lines-short : (pool : List (List ℕ)) (name : Option Atom) → length (module_name_lines pool name) ≤ 128 + 3 * module_name_bytes pool name
module-lines-short pool None = omega arith
module-lines-short pool (Some name) = omega (arith, module-name-short pool name)
