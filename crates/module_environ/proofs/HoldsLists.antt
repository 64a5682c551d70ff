-- A translation holds the lists of its module, in the form in which plans are said to agree with a
-- module.
use Rattle.std.proofs.Common.{◌≡◌, ◌<◌, ◌+◌, ◌-◌, ℕ, zero, suc, Bool, true, false, List, [], ◌∷◌, ◌++◌, length, map, drop, All, Option, Some, None, refl, sym, ap, ◌∙◌, arith}
use Rattle.std.specs.Prelude.{slice_get, unwrap_or}
use Rattle.std.specs.List.{filter_map, cons_option, enumerate_from}
use Rattle.std.specs.Option.{option_map}
use Rattle.std.proofs.lemmas.List.{drop-map, drop_at, length-map, map-append}
use Rattle.std.proofs.lemmas.List.Elements.{All-head, All-tail}
use Rattle.std.proofs.lemmas.Simd.{map-map}
use Rattle.wasm_spec.specs.declared.entities.TableType.{TableType}
use Rattle.wasm_spec.specs.declared.types.HeapType.{HeapType}
use Rattle.wasm_spec.specs.declared.types.HeapType.TheVariants.{Abstract, Concrete}
use Rattle.wasm_spec.specs.declared.types.AbstractHeapType.{AbstractHeapType}
use Rattle.wasm_spec.specs.declared.types.AbstractHeapType.TheVariants as abstract
use Rattle.wasm_spec.specs.declared.types.UnpackedIndex.{UnpackedIndex}
use Rattle.wasm_spec.specs.declared.types.UnpackedIndex.TheVariants as index
use Rattle.wasm_spec.specs.TypeData as types
use Rattle.wasm_spec.specs.TypeData.{Reference, Heap, Group, Composite, Func, Array, Struct, Cont, Exn, heap_of, map_heap, map_composite}
use Rattle.wasm_spec.specs.Module as plain
use Rattle.wasm_spec.specs.Module.{Expression, TableDef, GlobalDef, ElementKind, PassiveElement, DeclaredElement, ActiveElement, ElementItems, Element, table_import, imported_of}
use Rattle.rule_spec.specs.Lists.{Declared, declared_from, declared_groups, lists_of_module}
use Rattle.rule_spec.specs.TypeRules.{IsBelow, HeapIsBelow}
use Rattle.rule_spec.specs.References.{TableRefersIn, AllReferIn}
use Rattle.rule_spec.specs.Rules.{Keeps}
use Rattle.rule_spec.specs.declared.rules.Rule.TheVariants as rule
use Rattle.type_spec.specs.Names.{NameKind, FuncName}
use Rattle.type_spec.specs.Interned as interned
use Rattle.form_types.specs.Placed.{place_of, placed}
use Rattle.wasm_types.specs.declared.heap.WasmHeapType.{WasmHeapType}
use Rattle.wasm_types.specs.declared.heap.WasmHeapType.TheVariants as heap
use Rattle.wasm_types.specs.declared.table.Table.{Table}
use Rattle.wasm_types.specs.Tops.{top_of}
use Rattle.wasm_types.specs.EntityData.{TableData, map_table}
use Rattle.wasm_types.specs.EntityViews.{table_of}
use Rattle.wasm_types.specs.ValueViews.{Name, heap_of as view_heap}
use Rattle.wasm_convert.specs.declared.operators.ConstOp.{ConstOp}
use Rattle.wasm_convert.specs.Conversion.{LookUp, table_type_of}
use Rattle.wasm_convert.specs.Constants.{const_ops_of, expression_of}
use Rattle.wasm_module.specs.declared.table_initialization.TableInitialValue.{TableInitialValue}
use Rattle.wasm_module.specs.declared.table_initialization.TableInitialValue.TheVariants as initial
use Rattle.wasm_module.specs.declared.table_initialization.TableSegment.{TableSegment}
use Rattle.wasm_module.specs.declared.table_initialization.TableSegmentElements.{TableSegmentElements}
use Rattle.wasm_module.specs.declared.table_initialization.TableSegmentElements.TheVariants as elements
use Rattle.table_images.specs.Views.{is_func, items_of, active_elements_of, initial_of, defined_table_of, defined_tables_of}
use Rattle.replay_spec.specs.Elements.{Items, Functions, Expressions, ActiveItems, ActiveElements, items_by, active_by, is_function_type, has_functions_on_top, defined_table}
use Rattle.replay_spec.specs.Globals.{simple_of, kept_of}
use Rattle.replay_spec.specs.Held.{any_nulls, held_elements, held_table}
use Rattle.replay_spec.proofs.AnyNull.{const-any}
use Rattle.init_plan.specs.declared.translation.ModuleTranslation.{ModuleTranslation}
use Rattle.init_plan.specs.Tables.{own_tables}
use Rattle.init_plan.specs.Held.{HoldsMemories, HoldsTables, HoldsGlobals}
use Rattle.module_sections.proofs.HeldExpressions.{seen-is}
use Rattle.interned_types.specs.Types.{look_up_in}
use Rattle.module_sections.specs.Initialisers.{view_initialiser, first_values, view_first_value, type_in, active_items, view_items, view_segment}
use Rattle.module_sections.specs.Sections.{HasEntities, CountsImports, HasGlobals, HasElements, HasData}

-- ---- lists

map_gathered : {X Y Z : Type 0} (f : Y → Z) (g : X → Option Y) (xs : List X) → map f (filter_map g xs) ≡ filter_map (λ x. option_map f (g x)) xs
map_gathered f g [] = refl
map_gathered f g (x ∷ xs) = grind (arith, map_gathered f g xs)

-- ---- globals

simple_held : (n : ℕ) (gs : List GlobalDef)
    → filter_map simple_of (enumerate_from n (map (λ g. g.init) gs)) ≡ filter_map simple_of (enumerate_from n (map any_nulls (map (λ g. g.init) gs)))
simple_held n [] = refl
simple_held n (g ∷ gs) = λ i. cons_option (option_map (λ v. (n, v)) (sym (const-any g.init) i)) (simple_held (n + 1) gs i)

module _ (look : LookUp) where
  -- an initialiser that is kept, converted and converted back
  held_at : ℕ × Expression → ℕ × Expression
  held_at g = (g.0, expression_of (const_ops_of look g.1))

  kept_held : (n : ℕ) (gs : List GlobalDef)
      → map held_at (filter_map kept_of (enumerate_from n (map (λ g. g.init) gs))) ≡ filter_map kept_of (enumerate_from n (map any_nulls (map (λ g. g.init) gs)))
  unfolding held_at
  kept_held n [] = refl
  kept_held n (g ∷ gs) = grind (arith, kept_held (n + 1) gs, const-any g.init, seen-is look g.init)

pub holds_globals : (m : plain.Module) (t : ModuleTranslation) → HasGlobals m t
    → length t.module.globals - t.module.num_imported_globals ≡ length (lists_of_module m).globals → HoldsGlobals m t
unfolding held_at
holds_globals m t has counted =
    let globals = (lists_of_module m).globals in
    let back : ℕ × List ConstOp → ℕ × Expression = λ g. (g.0, expression_of g.1) in
    record {
      count = counted ∙ sym (length-map globals (λ (g : GlobalDef). g.init)) ∙ sym (length-map (map (λ (g : GlobalDef). g.init) globals) any_nulls);
      simple = has.known ∙ simple_held 0 globals;
      kept = sym (map-map back (view_initialiser (λ e. e)) t.global_initializers.items) ∙ ap (map back) has.left
          ∙ map-map back (λ (g : ℕ × Expression). (g.0, const_ops_of (look_up_in m) g.1)) (filter_map kept_of (enumerate_from 0 (map (λ g. g.init) globals)))
          ∙ kept_held (look_up_in m) 0 globals;
    }

-- ---- memories

pub holds_memories : (m : plain.Module) (t : ModuleTranslation) → HasEntities m t → CountsImports m t.module → HasData m t → HoldsMemories m t
holds_memories m t entities counts has = record { imports = counts.memories; memories = entities.memories; active = has.active }

-- ---- active element segments

-- their items without what the plan of tables does not hold
plain_items : Items (Reference Name) (List ConstOp) → Items (Unit {0}) Expression
plain_items (Functions functions) = Functions functions
plain_items (Expressions type expressions) = Expressions tt (map expression_of expressions)

plain_active : ActiveItems (Reference Name) (List ConstOp) → ActiveElements
plain_active a = record { table = a.table; offset = expression_of a.offset; items = plain_items a.items }

view_plain : (s : TableSegment) → active_elements_of s ≡ plain_active (view_segment s)
unfolding plain_items plain_active
view_plain s =
    ap (λ (items : Items (Unit {0}) Expression). record { table = (view_segment s).table; offset = expression_of s.offset; items = items }) (by s.elements) where
      by : (x : TableSegmentElements) → items_of x ≡ plain_items (view_items x)
      by (elements.Functions functions) = refl
      by (elements.Expressions ty expressions) = refl

items_held : (look : LookUp) (items : ElementItems) → plain_items (items_by (type_in look) (const_ops_of look) items) ≡ items_by (λ type. tt) any_nulls items
unfolding plain_items
items_held look (plain.Functions indices) = refl
items_held look (plain.Expressions type items) =
    ap (Expressions tt) (map-map expression_of (const_ops_of look) items ∙ (λ i. map (λ e. seen-is look e i) items))

active_held : (look : LookUp) (kind : ElementKind) (items : ElementItems)
    → option_map plain_active (active_by (type_in look) (const_ops_of look) kind items) ≡ active_by (λ type. tt) any_nulls kind items
unfolding plain_active
active_held look (ActiveElement table offset) items =
    λ i. Some (record { table = unwrap_or table 0; offset = seen-is look offset i; items = items_held look items i })
active_held look _ items = refl

elements_held : (look : LookUp) (es : List Element) → map plain_active (active_items look es) ≡ held_elements es
elements_held look es =
    map_gathered plain_active (λ (e : Element). active_by (type_in look) (const_ops_of look) e.kind e.items) es
    ∙ (λ i. filter_map (λ (e : Element). active_held look e.kind e.items i) es)

-- ---- the kinds of declared types

names_function : NameKind → Bool
names_function FuncName = true
names_function _ = false

-- whether the declared type, if there is one, is a function type
function_at : Option Declared → Bool
function_at o = is_function_type (option_map (λ (d : Declared). d.type.composite.inner) o)

one_kind : (c : Composite UnpackedIndex UnpackedIndex)
    → is_function_type (Some c) ≡ names_function (interned.kind_of_type (map_composite place_of place_of c))
unfolding names_function
one_kind (Func f) = refl
one_kind _ = refl

-- a group before others
within_group : (rest : List Declared) (hs : List (Group ℕ ℕ))
    → ((i : ℕ) → i < length rest → function_at (slice_get rest i) ≡ names_function (interned.kind_at hs i))
    → (end index : ℕ) (g : Group UnpackedIndex UnpackedIndex) (i : ℕ) → i < length (declared_from end index g ++ rest)
    → function_at (slice_get (declared_from end index g ++ rest) i) ≡ names_function (interned.kind_at (placed g ∷ hs) i)
unfolding function_at
within_group rest hs behind end index [] i lt = behind i lt
within_group rest hs behind end index (t ∷ ts) zero lt = one_kind t.composite.inner
within_group rest hs behind end index (t ∷ ts) (suc i) lt = within_group rest hs behind end (index + 1) ts i (omega (arith, lt))

kinds_same : (gs : List (Group UnpackedIndex UnpackedIndex)) (index i : ℕ) → i < length (declared_groups index gs)
    → function_at (slice_get (declared_groups index gs) i) ≡ names_function (interned.kind_at (map placed gs) i)
kinds_same [] index i lt = absurd (omega (arith, lt))
kinds_same (g ∷ gs) index i lt =
    within_group (declared_groups (index + length g) gs) (map placed gs) (kinds_same gs (index + length g)) (index + length g) index g i lt

-- ---- tables

-- whether functions are on top, of a heap type as data
functions_on_top : Heap Name → Bool
functions_on_top (types.Concrete name) = names_function name.kind
functions_on_top (types.Abstract abstract.Func) = true
functions_on_top (types.Abstract abstract.NoFunc) = true
functions_on_top (types.Abstract _) = false

view_on_top : (h : WasmHeapType) → is_func (top_of h) ≡ functions_on_top (view_heap h)
unfolding functions_on_top names_function
view_on_top heap.Func = refl
view_on_top _ = refl

on_top_same : (m : plain.Module) (h : HeapType) → HeapIsBelow (length (lists_of_module m).types) (heap_of h)
    → functions_on_top (map_heap (look_up_in m) (heap_of h)) ≡ has_functions_on_top (lists_of_module m) h
unfolding functions_on_top function_at HeapIsBelow
on_top_same m (Abstract h) below = by h where
  by : (h : AbstractHeapType) → functions_on_top (types.Abstract h) ≡ has_functions_on_top (lists_of_module m) (Abstract h)
  by abstract.Func = refl
  by _ = refl
on_top_same m (Concrete (index.Module i)) below = sym (kinds_same (plain.groups m) 0 i (All-head (IsBelow _) (index.Module i) [] below))
on_top_same m (Concrete i) below = absurd (All-head (IsBelow (length (lists_of_module m).types)) i [] below)

pub initial-seen : (v : TableInitialValue) → initial_of v ≡ option_map expression_of (view_first_value v)
initial-seen initial.Null = refl
initial-seen (initial.Expr e) = refl

initial_held : (look : LookUp) (v : TableInitialValue) (e : Option Expression) → view_first_value v ≡ option_map (const_ops_of look) e
    → initial_of v ≡ option_map any_nulls e
initial_held look v None same = initial-seen v ∙ ap (option_map expression_of) same
initial_held look v (Some e) same = initial-seen v ∙ ap (option_map expression_of) same ∙ ap Some (seen-is look e)

module _ (m : plain.Module) where
  table_in : TableType → TableData Name
  table_in t = map_table (look_up_in m) (table_type_of t)

  table_held : (t : Table) (v : TableInitialValue) (d : TableDef) → TableRefersIn (length (lists_of_module m).types) d → table_of t ≡ table_in d.type
      → view_first_value v ≡ option_map (const_ops_of (look_up_in m)) d.init → defined_table_of t v ≡ held_table (defined_table (lists_of_module m) d)
  unfolding table_in
  table_held t v d below same value =
      let minimum : t.limits.min ≡ d.type.initial = ap (λ (x : TableData Name). x.limits.min) same in
      let functions = view_on_top t.ref_type.heap_type ∙ ap (λ (x : TableData Name). functions_on_top x.reference.heap) same
      ∙ on_top_same m d.type.element_type.heap below.elements in
      let first = initial_held (look_up_in m) v d.init value in
      λ i. record { minimum = minimum i; functions = functions i; initial = first i }

  tables_held : (ts : List Table) (vs : List TableInitialValue) (ds : List TableDef) → All (TableRefersIn (length (lists_of_module m).types)) ds
      → map table_of ts ≡ map (λ (d : TableDef). table_in d.type) ds → map view_first_value vs ≡ first_values (look_up_in m) ds
      → defined_tables_of ts vs ≡ map held_table (map (defined_table (lists_of_module m)) ds)
  tables_held [] vs [] below same values = refl
  tables_held (t ∷ ts) (v ∷ vs) (d ∷ ds) below same values =
      let P = TableRefersIn (length (lists_of_module m).types) in
      let one = table_held t v d (All-head P d ds below) (cc) (cc) in
      let rest = tables_held ts vs ds (All-tail P d ds below) (cc) (cc) in
      λ i. one i ∷ rest i
  tables_held (t ∷ ts) [] (d ∷ ds) below same values = cc
  tables_held _ _ _ below same values = cc

  pub holds_tables : (t : ModuleTranslation) → Keeps m → HasEntities m t → CountsImports m t.module → HasElements m t → HoldsTables m t
  unfolding table_in
  holds_tables t keeps entities counts has =
      let defs = (lists_of_module m).tables in
      let imported = imported_of table_import m in
      let below : AllReferIn (length (lists_of_module m).types) (lists_of_module m) = keeps rule.L10 in
      let own : map table_of (own_tables t) ≡ map (λ (d : TableDef). table_in d.type) defs =
      sym (drop-map table_of t.module.num_imported_tables t.module.tables)
      ∙ ap (drop t.module.num_imported_tables) (entities.tables ∙ map-append table_in imported (map (λ (d : TableDef). d.type) defs))
      ∙ drop_at (map table_in imported) (map table_in (map (λ (d : TableDef). d.type) defs)) t.module.num_imported_tables
      (length-map imported table_in ∙ sym counts.tables)
      ∙ map-map table_in (λ (d : TableDef). d.type) defs in
      record {
        imports = counts.tables;
        tables = tables_held (own_tables t) t.table_initialization.initial_values defs below.tables own has.first;
        active = (λ i. map (λ (s : TableSegment). view_plain s i) t.table_initialization.segments.items)
            ∙ sym (map-map plain_active view_segment t.table_initialization.segments.items)
            ∙ ap (map plain_active) has.active ∙ elements_held (look_up_in m) (lists_of_module m).elements;
      }
