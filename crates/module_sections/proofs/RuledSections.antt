-- What the rules say of each section: its types are known, its expressions can be converted, and
-- its indices are in range.
use Rattle.std.proofs.Common.{◌≡◌, ℕ, ◌+◌, ◌<◌, ◌≤◌, ◌^◌, ◌⊎◌, List, [], ◌∷◌, length, take, Option, Some, None, sym, subst, arith, inl, inr, get_or, length-take}
use Rattle.std.specs.Prelude.{All, IfSome, slice_get, unwrap_or}
use Rattle.std.proofs.lemmas.List.Elements.{All-nil, All-cons, All-head, All-tail}
use Rattle.std.proofs.lemmas.Option.{slice_get_cases}
use Rattle.wasm_spec.specs.declared.entities.GlobalType.{GlobalType}
use Rattle.wasm_spec.specs.declared.entities.TableType.{TableType}
use Rattle.wasm_spec.specs.declared.entities.MemoryType.{MemoryType}
use Rattle.wasm_spec.specs.declared.entities.ExternalKind.{ExternalKind}
use Rattle.wasm_spec.specs.declared.entities.ExternalKind.TheVariants as kind
use Rattle.wasm_spec.specs.declared.types.UnpackedIndex.{UnpackedIndex}
use Rattle.wasm_spec.specs.declared.types.UnpackedIndex.TheVariants as index
use Rattle.wasm_spec.specs.TypeData.{heap_of}
use Rattle.wasm_spec.specs.Module.{TableDef, GlobalDef, ElementKind, ActiveElement, ElementItems, Functions, Expressions, DataKind, Passive, Active, HasFewEntries}
use Rattle.wasm_spec.specs.Module as plain
use Rattle.rule_spec.specs.declared.rules.Rule.TheVariants.{L6, L7, L9, L10}
use Rattle.rule_spec.specs.declared.classes.Class.{Class}
use Rattle.rule_spec.specs.declared.classes.Class.TheVariants as class
use Rattle.rule_spec.specs.Lists.{Lists, lists_of_module}
use Rattle.rule_spec.specs.Rules.{Keeps}
use Rattle.rule_spec.specs.Indices.{space_size, NamesTable, NamesMemory, NamesFunctions}
use Rattle.rule_spec.specs.References.{AllReferIn, ExpressionRefersIn, ElementKindRefersIn, TableRefersIn, GlobalRefersIn, ItemsReferIn, DataKindRefersIn}
use Rattle.rule_spec.specs.Expressions.{AreExpressionsTyped, address_class, HasTypedInitialiser, AreGlobalsTyped, HasTableOffset, HasTypedItems, HasMemoryOffset}
use Rattle.rule_spec.specs.Typing.{HasClass}
use Rattle.module_sections.specs.Convertible.{IsConvertible}
use Rattle.module_sections.specs.Escapes.{exported_function}
use Rattle.module_sections.specs.Exported.{HasExportableIndex}
use Rattle.module_sections.specs.Segments.{IsOffset, IsDataConvertible, AreDataConvertible, IsKindConvertible, AreItemsConvertible, AreElementsConvertible}
use Rattle.interned_types.proofs.DeclaredKinds.{types-long}
use Rattle.module_sections.proofs.FromRules.{heap-known, convertible}

-- what holds where an entry is there holds of an entry that is there
at-entry : {A : Type 0} (Q : A → Type 0) (R : Type 0) (xs : List A) (i : ℕ) → i < length xs → ((x : A) → Q x → R) → IfSome (slice_get xs i) Q → R
at-entry Q R xs i lt f h = by (slice_get_cases xs i).1 where
  by : ((x : _) × (i < length xs) × (slice_get xs i ≡ Some x) × (get_or xs i x ≡ x)) ⊎ ((length xs ≤ i) × (slice_get xs i ≡ None)) → R
  by (inl found) = f found.0 (subst (λ o. IfSome o Q) found.2 h)
  by (inr past) = absurd (omega (arith, past.0, lt))

-- a module that keeps the rules, with what is known of its declared types, and the number of its
-- functions
module _ (m : plain.Module) (keeps : Keeps m) (few : HasFewEntries m) (known : UnpackedIndex → Type 0)
    (knows : (i : ℕ) → i < length (lists_of_module m).types → known (index.Module i))
    (functions : ℕ) (counted : functions ≡ length (lists_of_module m).functions) where
  abbrev l : Lists
  l = lists_of_module m

  abbrev Converts : plain.Expression → Type 0
  Converts e = IsConvertible known functions e

  rule-refers : AllReferIn (length l.types) l
  rule-refers = keeps L10

  rule-typed : AreExpressionsTyped l
  rule-typed = keeps L6

  convert : (visible : List GlobalType) → length visible < 2 ^ 30 → (e : plain.Expression) (c : Class) → HasClass l visible e c
      → ExpressionRefersIn (length l.types) e → Converts e
  convert visible small e c typed refers =
      subst (λ n. IsConvertible known n e) (sym counted)
      (convertible l known knows (omega (arith, few.types, types-long m)) few.functions visible small e c typed refers)

  -- ---- tables

  few-imported : length (take l.imported_globals l.global_types) < 2 ^ 30
  few-imported = omega (arith, length-take l.imported_globals l.global_types, few.globals)

  pub table-initialisers : All (λ (t : TableDef). IfSome t.init Converts) l.tables
  table-initialisers = λ k d lt. each (get_or l.tables k d) (rule-typed.tables k d lt) (rule-refers.tables k d lt) where
    each : (t : TableDef) → HasTypedInitialiser l t → TableRefersIn (length l.types) t → IfSome t.init Converts
    each t typed refers = by t.init typed refers.init where
      by : (o : Option plain.Expression) → IfSome o (λ e. HasClass l (take l.imported_globals l.global_types) e class.Ref)
          → IfSome o (ExpressionRefersIn (length l.types)) → IfSome o Converts
      by None a b = tt
      by (Some e) a b = convert _ few-imported e class.Ref a b

  -- ---- globals

  initialisers-from : (index : ℕ) (gs : List GlobalDef) → AreGlobalsTyped l index gs → All (GlobalRefersIn (length l.types)) gs
      → All (λ (g : GlobalDef). Converts g.init) gs
  initialisers-from index [] typed refers = All-nil (λ (g : GlobalDef). Converts g.init)
  initialisers-from index (g ∷ gs) typed refers =
      All-cons (λ (g : GlobalDef). Converts g.init) g gs
      (convert (take index l.global_types) (omega (arith, length-take index l.global_types, few.globals)) g.init _ typed.0
      (All-head (GlobalRefersIn (length l.types)) g gs refers).init)
      (initialisers-from (index + 1) gs typed.1 (All-tail (GlobalRefersIn (length l.types)) g gs refers))

  pub global-initialisers : All (λ (g : GlobalDef). Converts g.init) l.globals
  global-initialisers = initialisers-from l.imported_globals l.globals rule-typed.globals rule-refers.globals

  -- ---- segments

  offset-converts : (e : plain.Expression) → Converts e → IsOffset known e
  offset-converts e c = record { some = c.some; operators = c.operators }

  element-kind : (k : ElementKind) → NamesTable l k → HasTableOffset l k → ElementKindRefersIn (length l.types) k → IsKindConvertible known k
  element-kind (ActiveElement table offset) named typed refers = (
    omega (arith, named, few.tables),
    offset-converts offset
        (at-entry (λ (t : TableType). HasClass l l.global_types offset (address_class t.table64)) (Converts offset) l.table_types (unwrap_or table 0) named
        (λ t h. convert l.global_types few.globals offset _ h refers) typed),
  )
  element-kind _ named typed refers = tt

  element-items : (i : ElementItems) → NamesFunctions l i → HasTypedItems l i → ItemsReferIn (length l.types) i
      → AreItemsConvertible known functions i
  element-items (Functions indices) named typed refers =
      λ k d lt. (omega (arith, named k d lt, counted), omega (arith, named k d lt, few.functions))
  element-items (Expressions type items) named typed refers = (
    heap-known l known knows (heap_of type.heap) refers.0,
    (λ k d lt. convert l.global_types few.globals (get_or items k d) class.Ref (typed k d lt) (refers.1 k d lt)),
  )

  pub elements-convert : AreElementsConvertible known functions l.elements
  elements-convert k d lt =
      let e = get_or l.elements k d in
      let named = (keeps L9).elements k d lt in
      let t = rule-typed.elements k d lt in
      let r = rule-refers.elements k d lt in
      record {
        kind = element-kind e.kind named.table t.offset r.kind;
        items = element-items e.items named.items t.items r.items;
      }

  segment-converts : (k : DataKind) → NamesMemory l k → HasMemoryOffset l k → DataKindRefersIn (length l.types) k
      → IsDataConvertible known k
  segment-converts Passive named typed refers = tt
  segment-converts (Active memory offset) named typed refers = (
    omega (arith, named, few.memories),
    offset-converts offset
        (at-entry (λ (t : MemoryType). HasClass l l.global_types offset (address_class t.memory64)) (Converts offset) l.memories memory named
        (λ t h. convert l.global_types few.globals offset _ h refers) typed),
  )

  pub segments-convert : AreDataConvertible known l.segments
  segments-convert k d lt =
      segment-converts (get_or l.segments k d).kind ((keeps L9).segments k d lt) (rule-typed.segments k d lt) (rule-refers.segments k d lt)

  -- ---- exports

  export-in-range : (k : ExternalKind) (index : ℕ) → index < space_size l k
      → (index < 4294967295) × IfSome (exported_function k index) (λ f. f < functions)
  export-in-range kind.Func index lt = (omega (arith, lt, few.functions), omega (arith, lt, counted))
  export-in-range kind.Table index lt = (omega (arith, lt, few.tables), tt)
  export-in-range kind.Memory index lt = (omega (arith, lt, few.memories), tt)
  export-in-range kind.Global index lt = (omega (arith, lt, few.globals), tt)
  export-in-range kind.Tag index lt = (omega (arith, lt, few.tags), tt)

  pub exports-in-range : All (HasExportableIndex functions) l.exports
  exports-in-range k d lt =
      let e = get_or l.exports k d in
      let r = export-in-range e.kind e.index ((keeps L7).in_space k d lt) in
      record { index = r.0; function = r.1 }
