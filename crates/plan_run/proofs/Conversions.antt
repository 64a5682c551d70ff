-- Conversions that are undone, and those that are kept in nodes.
use Rattle.std.proofs.Common.{◌≡◌, ℕ, true, false, List, [], ◌∷◌, Option, None, Some, refl, sym, ap, arith}
use Rattle.std.specs.Prelude.{slice_get, unwrap_or, All, IfSome, IfNone}
use Rattle.std.proofs.lemmas.Bool.{false≢true}
use Rattle.std.proofs.lemmas.List.Elements.{All-head}
use Rattle.wasm_spec.specs.declared.operators.Operator.{Operator}
use Rattle.wasm_spec.specs.declared.operators.Operator.TheVariants as op
use Rattle.replay_spec.specs.Values as plain
use Rattle.replay_spec.specs.Values.{Term, converted}
use Rattle.plan_run.specs.declared.value.Value.{Value}
use Rattle.plan_run.specs.declared.value.Value.TheVariants as value
use Rattle.plan_run.specs.declared.value.Node.{Node}
use Rattle.plan_run.specs.declared.kinds.Kind.TheVariants.{Conversion}
use Rattle.plan_run.specs.Kinds.{kind_of, conversion, undoes}
use Rattle.wasm_convert.specs.Operators.{operator_of}
use Rattle.plan_run.specs.Values.{value_in, kept_term, term_of, terms_of, NamesBelow, IsReference, IsOneReference, HasReference, AreOrdered}
use Rattle.plan_run.proofs.Terms.{node-term}

-- ---- the operator of a term

abbrev operator_in : Term → Option Operator
operator_in (plain.Allocated operator arguments) = Some operator
operator_in (plain.AsExtern term) = Some op.ExternConvertAny
operator_in (plain.AsAny term) = Some op.AnyConvertExtern
operator_in _ = None

operator-kept : (o : Operator) (vs : List plain.Value) → operator_in (kept_term o vs) ≡ Some o
operator-kept o vs = grind arith

-- a conversion wraps a term that the other did not make
wraps-extern : (t : Term) (b : Operator) → operator_in t ≡ Some b → undoes op.ExternConvertAny b ≡ false → plain.to_extern t ≡ plain.AsExtern t
wraps-extern t b is isnt = grind (arith, false≢true)

wraps-any : (t : Term) (b : Operator) → operator_in t ≡ Some b → undoes op.AnyConvertExtern b ≡ false → plain.to_any t ≡ plain.AsAny t
wraps-any t b is isnt = grind (arith, false≢true)

wraps : (a b : Operator) (t : Term) → kind_of a ≡ Conversion → operator_in t ≡ Some b → undoes a b ≡ false → conversion a t ≡ kept_term a (plain.Ref t ∷ [])
wraps a b t is made isnt = grind (arith, wraps-extern, wraps-any)

-- and undoes what the other made
back : (a b : Operator) (t : Term) → undoes a b ≡ true → conversion a (kept_term b (plain.Ref t ∷ [])) ≡ t
back a b t does = grind (arith, false≢true)

has-one : (a b : Operator) (vs : List Value) → undoes a b ≡ true → HasReference b vs → IsOneReference vs
has-one a b vs does has = grind (arith, false≢true)

-- ---- values

-- a reference is a term
pub term-in : (terms : List Term) (v : Value) → IsReference v → (t : Term) × (value_in terms v ≡ plain.Ref t)
term-in terms value.Null is = (_, refl)
term-in terms (value.Func function) is = (_, refl)
term-in terms (value.Host n) is = (_, refl)
term-in terms (value.I31 n) is = (_, refl)
term-in terms (value.Term k) is = (_, refl)
term-in terms _ is = absurd is

module _ (nodes : List Node) (ordered : AreOrdered nodes) (a : Operator) (is : kind_of a ≡ Conversion) (k : ℕ) (n : Node) (at : slice_get nodes k ≡ Some n) where
  node-is : value_in (terms_of nodes) (value.Term k) ≡ plain.Ref (term_of (terms_of nodes) n)
  node-is = ap (λ o. plain.Ref (unwrap_or o plain.Null)) (node-term nodes k n ordered at)

  -- what the node was made from is given back
  pub converts-back : undoes a (operator_of n.op) ≡ true → (v : Value) → slice_get n.args.items 0 ≡ Some v
      → (NamesBelow k v) × (converted (conversion a) (value_in (terms_of nodes) (value.Term k) ∷ []) ≡ Some (value_in (terms_of nodes) v))
  converts-back does v first = over n.args.items refl (has-one a (operator_of n.op) n.args.items does (ordered k n at).converts) (ordered k n at).below first where
    over : (vs : List Value) → n.args.items ≡ vs → IsOneReference vs → All (NamesBelow k) vs → slice_get vs 0 ≡ Some v
        → (NamesBelow k v) × (converted (conversion a) (value_in (terms_of nodes) (value.Term k) ∷ []) ≡ Some (value_in (terms_of nodes) v))
    over [] e one below first = absurd one
    over (w ∷ x ∷ xs) e one below first = absurd one
    over (w ∷ []) e one below first = grind (arith, term-in, node-is, All-head, back)

  module _ (does : undoes a (operator_of n.op) ≡ true) where
    pub given-below : (o : Option Value) → o ≡ slice_get n.args.items 0 → IfSome o (NamesBelow k)
    given-below None is = tt
    given-below (Some v) is = (converts-back does v (sym is)).0

    pub given-some : (o : Option Value) → o ≡ slice_get n.args.items 0
        → IfSome o (λ v. converted (conversion a) (value_in (terms_of nodes) (value.Term k) ∷ []) ≡ Some (value_in (terms_of nodes) v))
    given-some None is = tt
    given-some (Some v) is = (converts-back does v (sym is)).1

    pub given-none : (P : Type 0) (o : Option Value) → o ≡ slice_get n.args.items 0 → IfNone o P
    given-none P None is = grind (arith, has-one a (operator_of n.op) n.args.items does (ordered k n at).converts)
    given-none P (Some v) is = tt

  -- or it is kept in a node of its own
  pub converts-kept : undoes a (operator_of n.op) ≡ false
      → converted (conversion a) (value_in (terms_of nodes) (value.Term k) ∷ []) ≡ Some (plain.Ref (kept_term a (value_in (terms_of nodes) (value.Term k) ∷ [])))
  converts-kept isnt = grind (arith, operator-kept, wraps, node-is)
