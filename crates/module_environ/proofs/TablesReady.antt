-- The tables of a translated module may be planned.
use Rattle.std.proofs.Common.{◌≡◌, ◌∙◌, ℕ, ◌+◌, ◌<◌, Bool, List, [], ◌∷◌, length, map, take, get_or, Option, Some, None, sym, ap, subst, arith, refl}
use Rattle.std.specs.Prelude.{All, IfSome, unwrap_or, nat_lt}
use Rattle.std.specs.Option.{option_map}
use Rattle.std.specs.List.{enumerate_from}
use Rattle.std.specs.Global.{Vec}
use Rattle.std.proofs.lemmas.List.{length-map, length-append}
use Rattle.std.proofs.lemmas.List.Elements.{All-nil, All-cons, All-head, All-tail, All-map}
use Rattle.std.proofs.lemmas.List.FromFn.{length-enumerate_from}
use Rattle.form_types.proofs.AllOf.{All-from_map}
use Rattle.wasm_spec.specs.declared.entities.GlobalType.{GlobalType}
use Rattle.wasm_spec.specs.declared.operators.Operator.{Operator}
use Rattle.wasm_spec.specs.declared.operators.Operator.TheVariants as op
use Rattle.wasm_spec.specs.Module as plain
use Rattle.wasm_spec.specs.Module.{Expression, ElementItems, ElementKind, PassiveElement, DeclaredElement, ActiveElement, Element, TableDef, Module, HasFewEntries}
use Rattle.wasm_spec.specs.TypeData.{Reference}
use Rattle.rule_spec.specs.declared.rules.Rule.TheVariants.{L6, L9}
use Rattle.rule_spec.specs.declared.classes.Class.{Class}
use Rattle.rule_spec.specs.declared.classes.Class.TheVariants as class
use Rattle.rule_spec.specs.Lists.{Lists, lists_of_module}
use Rattle.rule_spec.specs.Typing.{refers_to, HasClass}
use Rattle.rule_spec.proofs.Stepping.{leads_to}
use Rattle.rule_spec.specs.Expressions.{HasTypedItems, IsElementTyped}
use Rattle.rule_spec.specs.Indices.{NamesTable, NamesFunctions, IsElementInRange}
use Rattle.rule_spec.specs.Rules.{Keeps}
use Rattle.wasm_index.specs.declared.index.Index.{Index}
use Rattle.wasm_index.specs.declared.spaces.FuncSpace.{FuncSpace}
use Rattle.wasm_types.specs.declared.table.Table.{Table}
use Rattle.wasm_types.specs.EntityViews.{table_of}
use Rattle.wasm_types.specs.ValueViews.{Name}
use Rattle.wasm_convert.specs.Conversion.{LookUp}
use Rattle.wasm_convert.specs.Operators.{conversion}
use Rattle.wasm_convert.specs.Constants.{const_ops_of, expression_of}
use Rattle.wasm_convert.specs.declared.operators.ConstOp.{ConstOp}
use Rattle.wasm_module.specs.declared.table_initialization.TableInitialValue.{TableInitialValue}
use Rattle.wasm_module.specs.declared.table_initialization.TableSegment.{TableSegment}
use Rattle.wasm_module.specs.declared.table_initialization.TableSegmentElements.{TableSegmentElements}
use Rattle.wasm_module.specs.declared.table_initialization.TableSegmentElements.TheVariants as elements
use Rattle.replay_spec.specs.Held.{any_null}
use Rattle.replay_spec.specs.Elements.{Items, Functions, Expressions, ActiveItems, ActiveElements, DefinedTable, items_by, active_by}
use Rattle.replay_spec.specs.Tables.{image_cells, initial_function, expression_cell}
use Rattle.table_images.specs.Views.{active_elements_of, initial_of, items_of, defined_tables_of, image_of}
use Rattle.table_images.specs.Steps.{images_of}
use Rattle.init_plan.specs.declared.translation.ModuleTranslation.{ModuleTranslation}
use Rattle.init_plan.specs.Tables.{IsAmong, own_tables, TableHalfIsReady}
use Rattle.interned_types.specs.Types.{look_up_in}
use Rattle.module_sections.specs.Initialisers.{type_in, active_items, view_items, view_segment, view_first_value}
use Rattle.module_sections.specs.Sections.{HasElements, HasEntities, CountsImports, Escapes}
use Rattle.module_sections.proofs.FromRules.{sized-below}
use Rattle.module_sections.proofs.Filling.{length-filter_map, All-gathered}
use Rattle.module_environ.proofs.HoldsLists.{initial-seen}

-- ---- functions in expressions

module _ (look : LookUp) (l : Lists) (visible : List GlobalType) (c : Class) where
  abbrev cell : Expression → Option ℕ
  cell e = unwrap_or (expression_cell e) None

  cell-any : (o : Operator) → HasClass l visible (o ∷ []) c → IsAmong (length l.functions) (cell (any_null o ∷ []))
  cell-any (op.RefFunc f) typed =
      let step = (leads_to l visible (op.RefFunc f ∷ []) c typed).1 in
      sized-below l f (nat_lt f (length l.functions)) (refers_to []) step.signed refl step.is_signed
  cell-any _ typed = tt

  cell-one : (o : Operator) → HasClass l visible (o ∷ []) c → IsAmong (length l.functions) (cell (expression_of (const_ops_of look (o ∷ []))))
  cell-one o typed = subst (λ read. IsAmong (length l.functions) (cell (read ∷ []))) (sym (conversion look o).same) (cell-any o typed)

  cell-among : (e : Expression) → HasClass l visible e c → IsAmong (length l.functions) (cell (expression_of (const_ops_of look e)))
  cell-among [] typed = tt
  cell-among (o ∷ []) typed = cell-one o typed
  cell-among (o ∷ p ∷ os) typed = tt

-- ---- items

abbrev cells : Items (Reference Name) (List ConstOp) → List (Option ℕ)
cells (Functions functions) = map Some functions
cells (Expressions type list) = map (λ e. unwrap_or (expression_cell e) None) (map expression_of list)

cells-seen : (x : TableSegmentElements) → image_cells (items_of x) ≡ cells (view_items x)
cells-seen (elements.Functions functions) = refl
cells-seen (elements.Expressions ty list) = refl

module _ (look : LookUp) (l : Lists) where
  cells-among : (items : ElementItems) → NamesFunctions l items → HasTypedItems l items
      → All (IsAmong (length l.functions)) (cells (items_by (type_in look) (const_ops_of look) items))
  cells-among (plain.Functions indices) names typed = All-map (IsAmong (length l.functions)) Some indices names
  cells-among (plain.Expressions type list) names typed =
      let A : Option ℕ → Type 0 = IsAmong (length l.functions) in
      let cell : Expression → Option ℕ = λ e. unwrap_or (expression_cell e) None in
      All-map A cell (map expression_of (map (const_ops_of look) list))
      (All-map (λ (e : Expression). A (cell e)) expression_of (map (const_ops_of look) list)
      (All-map (λ (e : List ConstOp). A (cell (expression_of e))) (const_ops_of look) list
      (λ k d lt. cell-among look l l.global_types class.Ref (get_or list k d) (typed k d lt))))

  -- what is known of an active segment
  pub record IsActiveReady (a : ActiveItems (Reference Name) (List ConstOp)) : Type 0 where
    pub table : a.table < length l.table_types
    pub functions : All (IsAmong (length l.functions)) (cells a.items)

  active-ready : (es : List Element) → All (IsElementInRange l) es → All (IsElementTyped l) es → All IsActiveReady (active_items look es)
  active-ready es ranged typed =
      All-gathered IsActiveReady (λ (e : Element). active_by (type_in look) (const_ops_of look) e.kind e.items) es (λ k d lt.
      let e = get_or es k d in
      with_kind e.kind e.items (ranged k d lt).table (cells-among e.items (ranged k d lt).items (typed k d lt).items)) where
        with_kind : (k : ElementKind) (items : ElementItems) → NamesTable l k → All (IsAmong (length l.functions)) (cells (items_by (type_in look) (const_ops_of look) items))
            → IfSome (active_by (type_in look) (const_ops_of look) k items) IsActiveReady
        with_kind (ActiveElement table offset) items in' functions = record { table = in'; functions = functions }
        with_kind _ items in' functions = tt

-- ---- initial values

module _ (look : LookUp) (l : Lists) (visible : List GlobalType) (c : Class) where
  initial-among : (o : Option Expression) → IfSome o (λ e. HasClass l visible e c)
      → IsAmong (length l.functions) (initial_function (option_map expression_of (option_map (const_ops_of look) o)))
  initial-among None typed = tt
  initial-among (Some e) typed = cell-among look l visible c e typed

All-defined : (P : Option Expression → Type 0) (ts : List Table) (vs : List TableInitialValue) → All (λ (v : TableInitialValue). P (initial_of v)) vs
    → All (λ (d : DefinedTable). P d.initial) (defined_tables_of ts vs)
All-defined P [] vs h = All-nil (λ (d : DefinedTable). P d.initial)
All-defined P (t ∷ ts) [] h = All-nil (λ (d : DefinedTable). P d.initial)
All-defined P (t ∷ ts) (v ∷ vs) h =
    All-cons (λ (d : DefinedTable). P d.initial) _ (defined_tables_of ts vs) (All-head (λ (x : TableInitialValue). P (initial_of x)) v vs h)
    (All-defined P ts vs (All-tail (λ (x : TableInitialValue). P (initial_of x)) v vs h))

-- ---- images

no_images : {T : Type 0} (images : List (Vec (Index FuncSpace))) (tables : List T) → map (λ image. image.items) images ≡ map (λ table. []) tables
    → All (λ (image : List (Option ℕ)). image ≡ []) (images_of images)
no_images {T} images tables none =
    let none' = All-map (λ (l : List (Index FuncSpace)). l ≡ []) (λ (t : T). []) tables (λ k d lt. refl) in
    let empty = All-from_map (λ (l : List (Index FuncSpace)). l ≡ []) (λ (v : Vec (Index FuncSpace)). v.items) images (rw none none') in
    All-map (λ (image : List (Option ℕ)). image ≡ []) (λ (v : Vec (Index FuncSpace)). image_of v.items) images (λ k d lt. ap image_of (empty k d lt))

-- ---- all parts together

module _ (debugged : Bool) (m : Module) (t : ModuleTranslation) (has : HasElements m t) (entities : HasEntities m t) (counts : CountsImports m t.module)
    (escapes : Escapes debugged m t) (kept : Keeps m) (few : HasFewEntries m) where
  abbrev l : Lists
  l = lists_of_module m

  abbrev look : LookUp
  look = look_up_in m

  table_count : length t.module.tables ≡ length (plain.tables m)
  table_count = sym (length-map t.module.tables table_of) ∙ ap length entities.tables ∙ length-map (plain.tables m) _

  function_count : length t.module.functions ≡ length (plain.functions m)
  function_count = ap length escapes.functions ∙ length-map (enumerate_from 0 (plain.functions m)) _ ∙ length-enumerate_from 0 (plain.functions m)

  own_count : length (plain.tables m) ≡ t.module.num_imported_tables + length l.tables
  own_count = length-append (plain.imported_of plain.table_import m) (map (λ (d : TableDef). d.type) l.tables)
      ∙ (let long = length-map l.tables (λ (d : TableDef). d.type) in omega (arith, counts.tables, long))

  ready : All (IsActiveReady look l) (map view_segment t.table_initialization.segments.items)
  ready = subst (All (IsActiveReady look l)) (sym has.active) (active-ready look l l.elements (kept L9).elements (kept L6).elements)

  each : All (λ (s : TableSegment). IsActiveReady look l (view_segment s)) t.table_initialization.segments.items
  each = All-from_map (IsActiveReady look l) view_segment t.table_initialization.segments.items ready

  initials : All (λ (v : TableInitialValue). IsAmong (length t.module.functions) (initial_function (initial_of v)))
      t.table_initialization.initial_values
  initials =
      let A : Option (List ConstOp) → Type 0 = λ o. IsAmong (length t.module.functions) (initial_function (option_map expression_of o)) in
      let typed : All (λ (d : TableDef). A (option_map (const_ops_of look) d.init)) l.tables = λ k d lt.
      rw function_count (initial-among look l (take l.imported_globals l.global_types) class.Ref (get_or l.tables k d).init ((kept L6).tables k d lt)) in
      let seen : All A (map view_first_value t.table_initialization.initial_values) =
      subst (All A) (sym has.first) (All-map A (λ (d : TableDef). option_map (const_ops_of look) d.init) l.tables typed) in
      λ k d lt. rw (initial-seen (get_or t.table_initialization.initial_values k d))
      (All-from_map A view_first_value t.table_initialization.initial_values seen k d lt)

  pub tables-ready : TableHalfIsReady t
  tables-ready =
      let segments = t.table_initialization.segments.items in
      record {
        imports = omega (arith, table_count, own_count);
        few_tables = omega (arith, table_count, few.tables);
        few_functions = omega (arith, function_count, few.functions);
        each_value =
            let count = sym (length-map t.table_initialization.initial_values view_first_value) ∙ ap length has.first ∙ length-map l.tables _ in
            omega (arith, count, table_count, own_count);
        each_image =
            let count = sym (length-map t.module.table_initialization (λ image. image.items)) ∙ ap length has.no_images ∙ length-map l.tables _ in
            omega (arith, count, table_count, own_count);
        no_images = no_images t.module.table_initialization l.tables has.no_images;
        few_segments =
            let count = length-map segments active_elements_of in
            let same = sym (length-map segments view_segment) ∙ ap length has.active in
            let le = length-filter_map (λ (e : Element). active_by (type_in look) (const_ops_of look) e.kind e.items) l.elements in
            omega (arith, count, same, le, few.elements);
        in_range = All-map (λ (s : ActiveElements). s.table < length t.module.tables) active_elements_of segments
            (λ k d lt. let in' = (each k d lt).table in omega (arith, in', table_count));
        functions = All-map (λ (s : ActiveElements). All (IsAmong (length t.module.functions)) (image_cells s.items)) active_elements_of segments
            (λ k d lt. rw (cells-seen (get_or segments k d).elements, function_count) (each k d lt).functions);
        initial_functions = All-defined (λ o. IsAmong (length t.module.functions) (initial_function o)) (own_tables t)
            t.table_initialization.initial_values initials;
      }
