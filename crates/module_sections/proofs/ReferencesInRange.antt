-- What a module that keeps the rules refers to are its functions.
use Rattle.std.proofs.Common.{◌<◌, ◌≤◌, ℕ, ◌+◌, ◌-◌, Bool, true, false, List, [], ◌∷◌, length, get_or, take, Option, None, Some, arith}
use Rattle.std.specs.Prelude.{All, IfSome, if◌then◌else◌}
use Rattle.std.specs.List.{flat_map, filter_map, range_with_len}
use Rattle.std.proofs.lemmas.List.{length-append}
use Rattle.std.proofs.lemmas.List.Elements.{All-nil, All-append, All-from_get_or}
use Rattle.std.proofs.lemmas.List.FromFn.{length-range_with_len, get_or-range_with_len}
use Rattle.wasm_spec.specs.declared.entities.ExternalKind.{ExternalKind}
use Rattle.wasm_spec.specs.declared.entities.ExternalKind.TheVariants as kind
use Rattle.wasm_spec.specs.Module.{TableDef, GlobalDef, Export, Element, ElementItems, Functions, Expressions}
use Rattle.wasm_spec.specs.Module as plain
use Rattle.rule_spec.specs.declared.rules.Rule.TheVariants.{L6, L7, L9}
use Rattle.rule_spec.specs.declared.classes.Class.TheVariants as class
use Rattle.rule_spec.specs.Lists.{Lists, lists_of_module}
use Rattle.rule_spec.specs.Rules.{Keeps}
use Rattle.rule_spec.specs.Indices.{space_size, NamesFunctions}
use Rattle.rule_spec.specs.Expressions.{AreExpressionsTyped, AreGlobalsTyped, HasTypedInitialiser, HasTypedItems}
use Rattle.rule_spec.specs.Typing.{HasClass}
use Rattle.form_types.proofs.AllOf.{All-parts}
use Rattle.module_sections.specs.Escapes.{references, referred, referred_if_any, exported_function, item_functions, defined_functions}
use Rattle.module_sections.proofs.Filling.{All-gathered}
use Rattle.module_sections.proofs.FromRules.{functions-in-range}

module _ (m : plain.Module) (keeps : Keeps m) where
  abbrev l : Lists
  l = lists_of_module m

  abbrev InRange : ℕ → Type 0
  InRange f = f < length l.functions

  typed : AreExpressionsTyped l
  typed = keeps L6

  -- ---- imported and defined functions

  range : (start count : ℕ) → start + count ≤ length l.functions → All InRange (range_with_len start count)
  range start count le =
      All-from_get_or InRange (range_with_len start count) 0 (λ i lt.
      let below : i < count = omega (arith, lt, length-range_with_len start count) in
      omega (arith, le, below, get_or-range_with_len start count i 0 below))

  few-imported : l.imported_functions ≤ length l.functions
  few-imported = omega (arith, length-append (plain.imported_of plain.function_import m) (flat_map plain.function_types_of_section m))

  -- ---- initialisers of tables and globals

  table : (t : TableDef) → HasTypedInitialiser l t → All InRange (referred_if_any t.init)
  table t is = by t.init is where
    by : (o : Option plain.Expression) → IfSome o (λ e. HasClass l (take l.imported_globals l.global_types) e class.Ref)
        → All InRange (referred_if_any o)
    by None is = All-nil InRange
    by (Some e) is = functions-in-range l (take l.imported_globals l.global_types) e class.Ref is

  tables : All InRange (flat_map (λ t. referred_if_any t.init) l.tables)
  tables = (All-parts InRange (λ (t : TableDef). referred_if_any t.init) l.tables).1 (λ k d lt. table (get_or l.tables k d) (typed.tables k d lt))

  globals-from : (index : ℕ) (gs : List GlobalDef) → AreGlobalsTyped l index gs → All InRange (flat_map (λ g. referred g.init) gs)
  globals-from index [] are = All-nil InRange
  globals-from index (g ∷ gs) are =
      All-append InRange (referred g.init) (flat_map (λ h. referred h.init) gs)
      (functions-in-range l (take index l.global_types) g.init _ are.0) (globals-from (index + 1) gs are.1)

  -- ---- exports

  with-export : (k : ExternalKind) (index : ℕ) → index < space_size l k → IfSome (exported_function k index) InRange
  with-export kind.Func index lt = lt
  with-export _ index lt = tt

  exports : (es : List Export) → All (λ (e : Export). e.index < space_size l e.kind) es
      → All InRange (filter_map (λ (e : Export). exported_function e.kind e.index) es)
  exports es all = All-gathered InRange (λ (e : Export). exported_function e.kind e.index) es (λ k d lt. with-export _ _ (all k d lt))

  -- ---- element segments

  items : (i : ElementItems) → NamesFunctions l i → HasTypedItems l i → All InRange (item_functions i)
  items (Functions indices) named are = named
  items (Expressions type es) named are =
      (All-parts InRange referred es).1 (λ k d lt. functions-in-range l l.global_types (get_or es k d) class.Ref (are k d lt))

  elements : All InRange (flat_map (λ e. item_functions e.items) l.elements)
  elements = (All-parts InRange (λ (e : Element). item_functions e.items) l.elements).1 (λ k d lt.
      items (get_or l.elements k d).items ((keeps L9).elements k d lt).items (typed.elements k d lt).items)

  -- ---- all

  pub references-in-range : (debugged : Bool) → All InRange (references debugged l)
  references-in-range debugged =
      let first = All-append InRange _ _ (range 0 l.imported_functions (omega (arith, few-imported))) tables in
      let second = All-append InRange _ _ first (globals-from l.imported_globals l.globals typed.globals) in
      let third = All-append InRange _ _ second (exports l.exports (keeps L7).in_space) in
      let fourth = All-append InRange _ _ third elements in
      All-append InRange _ _ fourth (by debugged) where
        by : (b : Bool) → All InRange (if b then defined_functions l else [])
        by true = range l.imported_functions (length l.functions - l.imported_functions) (omega (arith, few-imported))
        by false = All-nil InRange
