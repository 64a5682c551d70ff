-- Rows of names, expressions and items are told by what two modules have in common.
use Rattle.std.proofs.Common.{◌≡◌, ◌∙◌, ℕ, ◌+◌, List, [], ◌∷◌, ◌++◌, length, map, true, Option, None, Some, refl, sym, ap, subst}
use Rattle.std.specs.List.{flat_map}
use Rattle.std.specs.Option.{option_map}
use Rattle.std.proofs.lemmas.List.{length-map}
use Rattle.entity_map.specs.declared.pool.Atom.{Atom}
use Rattle.type_spec.specs.ListLaws.{map-twice}
use Rattle.wasm_spec.specs.TypeData.{Reference}
use Rattle.wasm_index.specs.Index.{number_of}
use Rattle.wasm_types.specs.declared.entity.EntityIndex.{EntityIndex}
use Rattle.wasm_types.specs.ValueViews.{Name}
use Rattle.wasm_types.specs.ViewsTell.{reference_back}
use Rattle.wasm_types.specs.declared.heap.WasmHeapType.TheVariants.{Func}
use Rattle.wasm_convert.specs.declared.operators.ConstOp.{ConstOp}
use Rattle.replay_spec.specs.Elements.{Items, Functions, Expressions}
use Rattle.wasm_module.specs.declared.initializer.Initializer.{Initializer}
use Rattle.wasm_module.specs.declared.initializer.Initializer.TheVariants.{Import}
use Rattle.wasm_module.specs.declared.module.Module.{Module}
use Rattle.wasm_module.specs.declared.table_initialization.TableSegmentElements.{TableSegmentElements}
use Rattle.wasm_module.specs.declared.table_initialization.TableSegmentElements.TheVariants as elements
use Rattle.wasm_module.specs.Elements.{element_type}
use Rattle.module_sections.specs.Entities.{NamedEntity, text_at, resolved_import, resolved_export}
use Rattle.module_sections.specs.Initialisers.{view_items}
use Rattle.plan_lines.specs.NameLines.{kind_number}
use Rattle.plan_tables.specs.declared.record.ElementItemsRecord.{ElementItemsRecord}
use Rattle.plan_tables.specs.declared.record.ExpressionsRecord.{ExpressionsRecord}
use Rattle.plan_tables.specs.declared.record.PlanRecord.{PlanRecord}
use Rattle.plan_tables.specs.declared.rows.ExportRow.{ExportRow}
use Rattle.plan_tables.specs.declared.rows.ImportRow.{ImportRow}
use Rattle.plan_tables.specs.declared.rows.ItemsRow.{ItemsRow}
use Rattle.plan_tables.specs.declared.rows.Span.{Span}
use Rattle.plan_tables.specs.Expressions.{TellsExpressions}
use Rattle.plan_tables.specs.Facts.{entities_row}
use Rattle.plan_tables.specs.Items.{TellsElementItems, functions_in, expressions_in, items_rows}
use Rattle.plan_tables.specs.Kinds.{TellsKinds, memory_row, table_row, global_row, tag_row}
use Rattle.plan_tables.specs.Names.{TellsModuleNames, entity_kind, import_row, import_rows, import_names, export_rows, name_of, own_parts, own_name}
use Rattle.plan_tables.specs.Operators.{operator_row}
use Rattle.plan_tables.specs.Spans.{spans_from}
use Rattle.plan_tables.specs.Values.{ref_row}
use Rattle.plan_laws.specs.Same.{SameModule}
use Rattle.plan_laws.proofs.Told.{lines-by, lines-told, rows-told}

-- ---- names

abbrev part_by : ℕ → List ℕ → Span
part_by n text = record { begin = n; len = length text }

names_by : NamedEntity → List ℕ
names_by x = x.0 ++ x.1

names-by : (pool : List (List ℕ)) (x : Initializer) → import_names pool x ≡ names_by (resolved_import pool x)
unfolding names_by
names-by pool (Import name field e) = refl

imported_row : ℕ → NamedEntity → ImportRow
imported_row n x = record {
  kind = entity_kind x.2;
  index = kind_number x.2;
  from = part_by n x.0;
  name = part_by (n + length x.0) x.1;
}

imported_rows : ℕ → List NamedEntity → List ImportRow
imported_rows n [] = []
imported_rows n (x ∷ xs) = imported_row n x ∷ imported_rows (n + length (names_by x)) xs

imports-by : (pool : List (List ℕ)) (n : ℕ) (xs : List Initializer) → import_rows pool n xs ≡ imported_rows n (map (resolved_import pool) xs)
unfolding imported_rows imported_row names_by
imports-by pool n [] = refl
imports-by pool n (Import name field e ∷ xs) = λ i. import_row pool n (Import name field e) ∷ imports-by pool (n + length (import_names pool (Import name field e))) xs i

exported_rows : ℕ → List (List ℕ × EntityIndex) → List ExportRow
exported_rows n [] = []
exported_rows n (x ∷ xs) = record { kind = entity_kind x.1; index = kind_number x.1; name = part_by n x.0 } ∷ exported_rows (n + length x.0) xs

exports-by : (pool : List (List ℕ)) (n : ℕ) (xs : List (Atom × EntityIndex)) → export_rows pool n xs ≡ exported_rows n (map (resolved_export pool) xs)
unfolding exported_rows
exports-by pool n [] = refl
exports-by pool n (x ∷ xs) = λ i.
    record { kind = entity_kind x.1; index = kind_number x.1; name = part_by n (name_of pool x.0) } ∷ exports-by pool (n + length (name_of pool x.0)) xs i

parts_by : Option (List ℕ) → List Span
parts_by None = []
parts_by (Some text) = part_by 0 text ∷ []

parts-by : (pool : List (List ℕ)) (o : Option Atom) → own_parts pool o ≡ parts_by (option_map (text_at pool) o)
unfolding parts_by
parts-by pool None = refl
parts-by pool (Some name) = refl

own_by : Option (List ℕ) → List ℕ
own_by None = []
own_by (Some text) = text

own-by : (pool : List (List ℕ)) (o : Option Atom) → own_name pool o ≡ own_by (option_map (text_at pool) o)
unfolding own_by
own-by pool None = refl
own-by pool (Some name) = refl

module _ (x y : Module) (same : SameModule x y) where
  import-rows : import_rows x.strings 0 x.initializers.items ≡ import_rows y.strings 0 y.initializers.items
  import-rows = imports-by x.strings 0 x.initializers.items ∙ ap (imported_rows 0) same.imports ∙ sym (imports-by y.strings 0 y.initializers.items)

  import-texts : flat_map (import_names x.strings) x.initializers.items ≡ flat_map (import_names y.strings) y.initializers.items
  import-texts =
      lines-by (resolved_import x.strings) (import_names x.strings) names_by (names-by x.strings) x.initializers.items ∙ ap (flat_map names_by) same.imports
      ∙ sym (lines-by (resolved_import y.strings) (import_names y.strings) names_by (names-by y.strings) y.initializers.items)

  export-rows : export_rows x.strings 0 x.exports.entries ≡ export_rows y.strings 0 y.exports.entries
  export-rows = exports-by x.strings 0 x.exports.entries ∙ ap (exported_rows 0) same.exports ∙ sym (exports-by y.strings 0 y.exports.entries)

  export-texts : flat_map (λ (e : Atom × EntityIndex). name_of x.strings e.0) x.exports.entries
      ≡ flat_map (λ (e : Atom × EntityIndex). name_of y.strings e.0) y.exports.entries
  export-texts =
      lines-by (resolved_export x.strings) (λ (e : Atom × EntityIndex). name_of x.strings e.0) (λ (e : List ℕ × EntityIndex). e.0) (λ e. refl) x.exports.entries
      ∙ ap (flat_map (λ (e : List ℕ × EntityIndex). e.0)) same.exports
      ∙ sym (lines-by (resolved_export y.strings) (λ (e : Atom × EntityIndex). name_of y.strings e.0) (λ (e : List ℕ × EntityIndex). e.0) (λ e. refl) y.exports.entries)

  own-parts : own_parts x.strings x.name ≡ own_parts y.strings y.name
  own-parts = parts-by x.strings x.name ∙ ap parts_by same.name ∙ sym (parts-by y.strings y.name)

  pub own-text : own_name x.strings x.name ≡ own_name y.strings y.name
  own-text = own-by x.strings x.name ∙ ap own_by same.name ∙ sym (own-by y.strings y.name)

  pub names-tell : (r : PlanRecord) → TellsModuleNames x r.names → TellsModuleNames y r.names
  names-tell r c = record {
    imports = record { rows = c.imports.rows ∙ import-rows; names = c.imports.names ∙ import-texts };
    exports = record { rows = c.exports.rows ∙ export-rows; names = c.exports.names ∙ export-texts };
    own = c.own ∙ own-parts;
  }

  pub entities-tell : entities_row x ≡ entities_row y
  entities-tell = λ i. record {
    functions = length (same.functions i);
    imported_functions = same.num_imported_funcs i;
    tables = length (same.tables i);
    imported_tables = same.num_imported_tables i;
    memories = length (same.memories i);
    imported_memories = same.num_imported_memories i;
    globals = length (same.globals i);
    imported_globals = same.num_imported_globals i;
    tags = length (same.tags i);
    imported_tags = same.num_imported_tags i;
  }

  pub kinds-tell : (r : PlanRecord) → TellsKinds x r.kinds → TellsKinds y r.kinds
  kinds-tell r c = record {
    memories = c.memories ∙ ap (map memory_row) same.memories;
    tables = c.tables ∙ ap (map table_row) same.tables;
    globals = c.globals ∙ ap (map global_row) same.globals;
    tags = c.tags ∙ ap (map tag_row) same.tags;
  }

-- ---- expressions and items

module _ {X V : Type 0} (view : X → V) (xs ys : List X) (same : map view xs ≡ map view ys) where
  pub expressions-told : (operators : X → List ConstOp) (by : V → List ConstOp) → ((x : X) → operators x ≡ by (view x)) → (r : ExpressionsRecord)
      → TellsExpressions operators xs r → TellsExpressions operators ys r
  expressions-told operators by is r c = record {
    parts = c.parts ∙ ap (spans_from 0) (rows-told view (λ x. length (operators x)) (λ v. length (by v)) (λ x. ap length (is x)) xs ys same);
    rows = c.rows ∙ lines-told view (λ x. map operator_row (operators x)) (λ v. map operator_row (by v)) (λ x. ap (map operator_row) (is x)) xs ys same;
  }

functions_by : Items (Reference Name) (List ConstOp) → List ℕ
functions_by (Functions functions) = functions
functions_by (Expressions type expressions) = []

expressions_by : Items (Reference Name) (List ConstOp) → List (List ConstOp)
expressions_by (Functions functions) = []
expressions_by (Expressions type expressions) = expressions

functions-by : (e : TableSegmentElements) → map number_of (functions_in e) ≡ functions_by (view_items e)
unfolding functions_by
functions-by (elements.Functions functions) = refl
functions-by (elements.Expressions ty expressions) = refl

expressions-by : (e : TableSegmentElements) → expressions_in e ≡ expressions_by (view_items e)
unfolding expressions_by
expressions-by (elements.Functions functions) = refl
expressions-by (elements.Expressions ty expressions) = refl

-- a segment's row, from how many functions and expressions stand before it
abbrev row_of : ℕ → ℕ → TableSegmentElements → ItemsRow
row_of f e x = record {
  element = ref_row (element_type x);
  functions = record { begin = f; len = length (functions_in x) };
  expressions = record { begin = e; len = length (expressions_in x) };
}

row_by : ℕ → ℕ → Items (Reference Name) (List ConstOp) → ItemsRow
row_by f e (Functions functions) = record {
  element = ref_row (record { nullable = true; heap_type = Func });
  functions = record { begin = f; len = length functions };
  expressions = record { begin = e; len = 0 };
}
row_by f e (Expressions type expressions) = record {
  element = ref_row (reference_back.back type);
  functions = record { begin = f; len = 0 };
  expressions = record { begin = e; len = length expressions };
}

row-by : (f e : ℕ) (x : TableSegmentElements) → row_of f e x ≡ row_by f e (view_items x)
unfolding row_by
row-by f e (elements.Functions functions) = λ i. record {
  element = ref_row (record { nullable = true; heap_type = Func });
  functions = record { begin = f; len = sym (length-map functions.items number_of) i };
  expressions = record { begin = e; len = 0 };
}
row-by f e (elements.Expressions ty expressions) = λ i. record {
  element = ref_row (sym (reference_back.is ty) i);
  functions = record { begin = f; len = 0 };
  expressions = record { begin = e; len = length expressions.items };
}

rows_by : ℕ → ℕ → List (Items (Reference Name) (List ConstOp)) → List ItemsRow
rows_by f e [] = []
rows_by f e (x ∷ xs) = row_by f e x ∷ rows_by (f + length (functions_by x)) (e + length (expressions_by x)) xs

rows-by : (f e : ℕ) (xs : List TableSegmentElements) → items_rows f e xs ≡ rows_by f e (map view_items xs)
unfolding rows_by
rows-by f e [] = refl
rows-by f e (x ∷ xs) =
    let functions : length (functions_in x) ≡ length (functions_by (view_items x)) = sym (length-map (functions_in x) number_of) ∙ ap length (functions-by x) in
    (λ i. row-by f e x i ∷ rows-by (f + length (functions_in x)) (e + length (expressions_in x)) xs i)
    ∙ (λ i. row_by f e (view_items x) ∷ rows_by (f + functions i) (e + length (expressions-by x i)) (map view_items xs))

module _ {X V : Type 0} (view : X → V) (of : X → TableSegmentElements) (items : V → Items (Reference Name) (List ConstOp)) (is : (x : X) → view_items (of x) ≡ items (view x)) (xs ys : List X)
    (same : map view xs ≡ map view ys) where
  viewed : map view_items (map of xs) ≡ map view_items (map of ys)
  viewed =
      let both : X → Items (Reference Name) (List ConstOp) = (λ x. view_items (of x)) in
      map-twice of view_items both (λ x. refl) xs ∙ rows-told view both items is xs ys same ∙ sym (map-twice of view_items both (λ x. refl) ys)

  all-expressions : flat_map (λ x. expressions_in (of x)) xs ≡ flat_map (λ x. expressions_in (of x)) ys
  all-expressions = lines-told view (λ x. expressions_in (of x)) (λ v. expressions_by (items v)) (λ x. expressions-by (of x) ∙ ap expressions_by (is x)) xs ys same

  pub items-told : (r : ElementItemsRecord) → TellsElementItems of xs r → TellsElementItems of ys r
  items-told r c = record {
    rows = c.rows ∙ rows-by 0 0 (map of xs) ∙ ap (rows_by 0 0) viewed ∙ sym (rows-by 0 0 (map of ys));
    functions = c.functions ∙ lines-told view (λ x. map number_of (functions_in (of x))) (λ v. functions_by (items v)) (λ x. functions-by (of x) ∙ ap functions_by (is x)) xs ys same;
    expressions = subst (λ (es : List (List ConstOp)). TellsExpressions (λ e. e) es r.expressions) all-expressions c.expressions;
  }
