-- Entries whose type indices are all below a bound.
use Rattle.std.proofs.Common.{ℕ, List, [], Option, Some, None, All}
use Rattle.std.specs.Prelude.{IfSome, option_to_list}
use Rattle.std.specs.List.{flat_map}
use Rattle.std.proofs.lemmas.List.Elements.{All-weaker}
use Rattle.wasm_spec.specs.declared.entities.TypeRef.{TypeRef}
use Rattle.wasm_spec.specs.declared.entities.TypeRef.TheVariants as imported
use Rattle.wasm_spec.specs.declared.operators.Operator.{Operator}
use Rattle.wasm_spec.specs.declared.operators.Operator.TheVariants as op
use Rattle.wasm_spec.specs.declared.types.ValType.{ValType}
use Rattle.wasm_spec.specs.Module.{Expression, TableDef, GlobalDef, ElementKind, ActiveElement, ElementItems, Functions, Expressions, Element, Body, DataKind, Passive, Active}
use Rattle.rule_spec.specs.TypeRules.{IsBelow, HeapIsBelow, ValueIsBelow}
use Rattle.rule_spec.specs.References.{OperatorRefersIn, ExpressionRefersIn, ImportRefersIn, TableRefersIn, GlobalRefersIn, ElementKindRefersIn, ItemsReferIn, ElementRefersIn, BodyRefersIn, DataKindRefersIn}
use Rattle.form_types.proofs.AllOf.{All-joined, All-parts}
use Rattle.rule_breaks.specs.Named.{value_types, heap_types, operator_types, expression_types, import_types, table_types, global_types, offset_types, item_types, element_types, body_types, segment_types}

module _ (n : ℕ) where
  operator_refers : (o : Operator) → All (IsBelow n) (operator_types o) → OperatorRefersIn n o
  unfolding HeapIsBelow
  operator_refers (op.RefNull heap) all = all
  operator_refers o all = tt

  expression_refers : (e : Expression) → All (IsBelow n) (expression_types e) → ExpressionRefersIn n e
  expression_refers e all =
      All-weaker (λ o. All (IsBelow n) (operator_types o)) (OperatorRefersIn n) operator_refers e ((All-parts (IsBelow n) operator_types e).0 all)

  expressions_refer : (es : List Expression) → All (IsBelow n) (flat_map expression_types es) → All (ExpressionRefersIn n) es
  expressions_refer es all =
      All-weaker (λ e. All (IsBelow n) (expression_types e)) (ExpressionRefersIn n) expression_refers es ((All-parts (IsBelow n) expression_types es).0 all)

  pub import_refers : (t : TypeRef) → All (IsBelow n) (import_types t) → ImportRefersIn n t
  unfolding HeapIsBelow ValueIsBelow
  import_refers (imported.Table t) all = all
  import_refers (imported.Global t) all = all
  import_refers t all = tt

  initialiser_refers : (o : Option Expression) → All (IsBelow n) (flat_map expression_types (option_to_list o)) → IfSome o (ExpressionRefersIn n)
  initialiser_refers None all = tt
  initialiser_refers (Some e) all = expression_refers e ((All-joined (IsBelow n) (expression_types e) []).0 all).0

  pub table_refers : (t : TableDef) → All (IsBelow n) (table_types t) → TableRefersIn n t
  unfolding HeapIsBelow
  table_refers t all =
      let both = (All-joined (IsBelow n) (heap_types t.type.element_type.heap) (flat_map expression_types (option_to_list t.init))).0 all in
      record { elements = both.0; init = initialiser_refers t.init both.1 }

  pub global_refers : (g : GlobalDef) → All (IsBelow n) (global_types g) → GlobalRefersIn n g
  unfolding ValueIsBelow
  global_refers g all =
      let both = (All-joined (IsBelow n) (value_types g.type.content_type) (expression_types g.init)).0 all in
      record { content = both.0; init = expression_refers g.init both.1 }

  offset_refers : (k : ElementKind) → All (IsBelow n) (offset_types k) → ElementKindRefersIn n k
  offset_refers (ActiveElement table offset) all = expression_refers offset all
  offset_refers k all = tt

  items_refer : (i : ElementItems) → All (IsBelow n) (item_types i) → ItemsReferIn n i
  unfolding HeapIsBelow
  items_refer (Functions indices) all = tt
  items_refer (Expressions type items) all =
      let both = (All-joined (IsBelow n) (heap_types type.heap) (flat_map expression_types items)).0 all in
      (both.0, expressions_refer items both.1)

  pub element_refers : (e : Element) → All (IsBelow n) (element_types e) → ElementRefersIn n e
  element_refers e all =
      let both = (All-joined (IsBelow n) (offset_types e.kind) (item_types e.items)).0 all in
      record { kind = offset_refers e.kind both.0; items = items_refer e.items both.1 }

  pub body_refers : (b : Body) → All (IsBelow n) (body_types b) → BodyRefersIn n b
  unfolding ValueIsBelow
  body_refers b all =
      (All-parts (IsBelow n) (λ (run : ℕ × ValType). value_types run.1) b.locals).0 all

  pub segment_refers : (k : DataKind) → All (IsBelow n) (segment_types k) → DataKindRefersIn n k
  segment_refers Passive all = tt
  segment_refers (Active memory offset) all = expression_refers offset all
