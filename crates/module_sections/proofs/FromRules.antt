-- What the rules say of constant expressions: each can be converted where the declared types are
-- known.
use Rattle.std.proofs.Common.{◌≡◌, ℕ, ◌<◌, ◌≤◌, ◌^◌, ◌⊎◌, Bool, true, false, List, [], ◌∷◌, length, Option, Some, None, refl, ap, subst, arith, inl, inr, get_or}
use Rattle.std.specs.Prelude.{All, slice_get, nat_lt}
use Rattle.std.specs.Option.{option_map, option_and_then}
use Rattle.std.specs.List.{cons_option}
use Rattle.std.proofs.lemmas.Bool.{ltb-true}
use Rattle.std.proofs.lemmas.List.Elements.{All-nil, All-cons, All-head, All-tail}
use Rattle.std.proofs.lemmas.Option.{slice_get_cases, none-some}
use Rattle.wasm_spec.specs.declared.entities.GlobalType.{GlobalType}
use Rattle.wasm_spec.specs.declared.operators.Operator.{Operator}
use Rattle.wasm_spec.specs.declared.operators.Operator.TheVariants as op
use Rattle.wasm_spec.specs.declared.types.UnpackedIndex.{UnpackedIndex}
use Rattle.wasm_spec.specs.declared.types.UnpackedIndex.TheVariants as index
use Rattle.wasm_spec.specs.TypeData.{Heap, Composite, heap_of, heap_edges}
use Rattle.wasm_spec.specs.Module.{Expression}
use Rattle.rule_spec.specs.declared.classes.Class.{Class}
use Rattle.rule_spec.specs.Lists.{Lists, Declared, kind_at}
use Rattle.rule_spec.specs.TypeRules.{HeapIsBelow}
use Rattle.rule_spec.specs.References.{OperatorRefersIn, ExpressionRefersIn}
use Rattle.rule_spec.specs.Typing.{Signature, struct_fields, array_field, global_signature, refers_to, where_true, signature, HasClass}
use Rattle.rule_spec.proofs.Stepping.{Leads, leads_to}
use Rattle.wasm_convert.specs.Known.{Known}
use Rattle.wasm_convert.specs.Operators.{KnowsOperator}
use Rattle.module_sections.specs.Escapes.{referred_by, referred}
use Rattle.module_sections.specs.Convertible.{IsConvertible}
use Rattle.module_sections.proofs.Agreeing.{known-edges}

-- where a fact fails without an entry, an index of which it holds is one of the list
pub below-by : {A : Type 0} (Q : Option A → Type 0) (xs : List A) (i : ℕ) → (Q None → ⊥) → Q (slice_get xs i) → i < length xs
below-by Q xs i none q = by (slice_get_cases xs i).1 where
  by : ((x : _) × (i < length xs) × (slice_get xs i ≡ Some x) × (get_or xs i x ≡ x)) ⊎ ((length xs ≤ i) × (slice_get xs i ≡ None)) → i < length xs
  by (inl found) = found.1
  by (inr past) = absurd (none (subst Q past.1 q))

-- ---- functions to which expressions refer

module _ (l : Lists) where
  -- a function that an operator names is one of the functions
  pub sized-below : (t : ℕ) (c : Bool) (o : Option Signature) (s : Signature) → nat_lt t (length l.functions) ≡ c → where_true c o ≡ Some s → t < length l.functions
  sized-below t true o s e signed = ltb-true t (length l.functions) e
  sized-below t false o s e signed = absurd (none-some _ signed)

  module _ (visible : List GlobalType) where
    -- a function to which an operator refers is one of the functions
    abbrev InRange : ℕ → Type 0
    InRange function = function < length l.functions

    with-referred : (o : Operator) (s : Signature) (rest : List ℕ) → signature l visible o ≡ Some s → All InRange rest
        → All InRange (cons_option (referred_by o) rest)
    with-referred (op.RefFunc f) s rest e all =
        All-cons InRange f rest (sized-below f (nat_lt f (length l.functions)) (refers_to []) s refl e) all
    with-referred _ s rest e all = all

    functions-along : (e : Expression) (before after : List Class) → Leads l visible e before after → All InRange (referred e)
    functions-along [] before after leads = All-nil InRange
    functions-along (o ∷ e) before after leads =
        with-referred o leads.1.signed (referred e) leads.1.is_signed (functions-along e leads.0 after leads.2)

    pub functions-in-range : (e : Expression) (c : Class) → HasClass l visible e c → All InRange (referred e)
    functions-in-range e c typed = functions-along e [] (c ∷ []) (leads_to l visible e c typed)

-- over the lists of a module and what is known of its declared types
module _ (l : Lists) (known : UnpackedIndex → Type 0) (knows : (i : ℕ) → i < length l.types → known (index.Module i)) where
  pub heap-known : (h : Heap UnpackedIndex) → HeapIsBelow (length l.types) h → Known known (heap_edges (λ i. i) h)
  unfolding HeapIsBelow
  heap-known h below = known-edges known (length l.types) knows (heap_edges (λ i. i) h) below

  -- ---- operators

  module _ (few_types : length l.types < 2 ^ 30) (few_functions : length l.functions < 2 ^ 30) (visible : List GlobalType) (few : length visible < 2 ^ 30) where
    abbrev Declares : {A : Type 0} → (Composite UnpackedIndex UnpackedIndex → Option A) → (A → Option Signature) → Option Declared → Type 0
    Declares g f o = (s : Signature) × (option_and_then f (option_and_then g (option_map (λ (d : Declared). d.type.composite.inner) o)) ≡ Some s)

    declared-below : {A : Type 0} (g : Composite UnpackedIndex UnpackedIndex → Option A) (f : A → Option Signature) (t : ℕ) (s : Signature)
        → option_and_then f (option_and_then g (kind_at l t)) ≡ Some s → t < 4294967295
    declared-below g f t s e =
        let lt = below-by (Declares g f) l.types t (λ q. none-some _ q.1) (s, e) in omega (arith, lt, few_types)

    operator-known : (o : Operator) (s : Signature) → signature l visible o ≡ Some s → OperatorRefersIn (length l.types) o → KnowsOperator known o
    operator-known (op.GlobalGet g) s e refers =
        let lt = below-by (λ x. (s : Signature) × (option_and_then global_signature x ≡ Some s)) visible g (λ q. none-some _ q.1) (s, e) in omega (arith, lt, few)
    operator-known (op.RefNull heap) s e refers = heap-known (heap_of heap) refers
    operator-known (op.RefFunc f) s e refers =
        let lt = sized-below l f (nat_lt f (length l.functions)) (refers_to []) s refl e in omega (arith, lt, few_functions)
    operator-known (op.StructNew t) s e refers = declared-below struct_fields _ t s e
    operator-known (op.StructNewDefault t) s e refers = declared-below struct_fields _ t s e
    operator-known (op.ArrayNew t) s e refers = declared-below array_field _ t s e
    operator-known (op.ArrayNewDefault t) s e refers = declared-below array_field _ t s e
    operator-known (op.ArrayNewFixed t n) s e refers = declared-below array_field _ t s e
    operator-known _ s e refers = tt

    -- ---- expressions

    operators-known : (e : Expression) (before after : List Class) → Leads l visible e before after → ExpressionRefersIn (length l.types) e
        → All (KnowsOperator known) e
    operators-known [] before after leads refers = All-nil (KnowsOperator known)
    operators-known (o ∷ e) before after leads refers =
        All-cons (KnowsOperator known) o e
        (operator-known o leads.1.signed leads.1.is_signed (All-head (OperatorRefersIn (length l.types)) o e refers))
        (operators-known e leads.0 after leads.2 (All-tail (OperatorRefersIn (length l.types)) o e refers))

    some-operator : (e : Expression) (c : Class) → Leads l visible e [] (c ∷ []) → 0 < length e
    some-operator [] c typed = let none : 0 ≡ 1 = ap length typed in absurd (omega (arith, none))
    some-operator (o ∷ e) c typed = omega arith

    pub convertible : (e : Expression) (c : Class) → HasClass l visible e c → ExpressionRefersIn (length l.types) e
        → IsConvertible known (length l.functions) e
    convertible e c typed refers = let leads = leads_to l visible e c typed in record {
      some = some-operator e c leads;
      operators = operators-known e [] (c ∷ []) leads refers;
      in_range = functions-in-range l visible e c typed;
    }
