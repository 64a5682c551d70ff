-- What the values of the runner mean: references that are made are numbers of nodes.
use Rattle.std.specs.Prelude.{◌≡◌, ℕ, ◌<◌, List, [], ◌∷◌, ◌++◌, map, All, Some, slice_get, unwrap_or}
use Rattle.wasm_index.specs.Index.{number_of}
use Rattle.wasm_spec.specs.declared.operators.Operator.{Operator}
use Rattle.wasm_spec.specs.declared.operators.Operator.TheVariants as op
use Rattle.wasm_convert.specs.Operators.{operator_of}
use Rattle.replay_spec.specs.Values as plain
use Rattle.replay_spec.specs.Values.{Term, arguments_of}
use Rattle.plan_run.specs.declared.value.Value.{Value}
use Rattle.plan_run.specs.declared.value.Value.TheVariants as value
use Rattle.plan_run.specs.declared.value.Node.{Node}

-- a value, where these are the terms of the nodes
abbrev pub value_in : List Term → Value → plain.Value
value_in terms (value.I32 n) = plain.I32 n
value_in terms (value.I64 n) = plain.I64 n
value_in terms (value.F32 bits) = plain.F32 bits
value_in terms (value.F64 bits) = plain.F64 bits
value_in terms (value.V128 bits) = plain.V128 bits
value_in terms value.Null = plain.Ref plain.Null
value_in terms (value.Func function) = plain.Ref (plain.Func (number_of function))
value_in terms (value.Host n) = plain.Ref (plain.Host n)
value_in terms (value.I31 n) = plain.Ref (plain.I31 n)
value_in terms (value.Term k) = plain.Ref (unwrap_or (slice_get terms k) plain.Null)

abbrev pub values_in : List Term → List Value → List plain.Value
values_in terms values = map (value_in terms) values

-- an imported value names no node
abbrev pub imported_value : Value → plain.Value
imported_value v = value_in [] v

-- ---- nodes

-- what an operator that is kept in a node makes of its arguments: a conversion of one reference, or
-- else a new object
abbrev pub kept_term : Operator → List plain.Value → Term
kept_term op.ExternConvertAny (plain.Ref term ∷ []) = plain.AsExtern term
kept_term op.AnyConvertExtern (plain.Ref term ∷ []) = plain.AsAny term
kept_term operator arguments = plain.Allocated operator (arguments_of arguments)

-- the term of a node, over those of the nodes before it
abbrev pub term_of : List Term → Node → Term
term_of terms n = kept_term (operator_of n.op) (values_in terms n.args.items)

abbrev pub terms_after : List Term → List Node → List Term
terms_after terms [] = terms
terms_after terms (n ∷ ns) = terms_after (terms ++ term_of terms n ∷ []) ns

-- the terms of nodes
abbrev pub terms_of : List Node → List Term
terms_of nodes = terms_after [] nodes

-- a value names only a node below a number
abbrev pub NamesBelow : ℕ → Value → Type 0
NamesBelow k (value.Term n) = n < k
NamesBelow k _ = Unit {0}

-- a value that names no node
abbrev pub IsPlain : Value → Type 0
IsPlain v = NamesBelow 0 v

abbrev pub IsReference : Value → Type 0
IsReference value.Null = Unit {0}
IsReference (value.Func function) = Unit {0}
IsReference (value.Host n) = Unit {0}
IsReference (value.I31 n) = Unit {0}
IsReference (value.Term k) = Unit {0}
IsReference _ = ⊥

-- one reference
abbrev pub IsOneReference : List Value → Type 0
IsOneReference (v ∷ []) = IsReference v
IsOneReference _ = ⊥

-- a conversion has one argument, a reference
abbrev pub HasReference : Operator → List Value → Type 0
HasReference op.ExternConvertAny arguments = IsOneReference arguments
HasReference op.AnyConvertExtern arguments = IsOneReference arguments
HasReference operator arguments = Unit {0}

-- a node that has so many before it: its arguments name only these
pub record IsNodeAt (k : ℕ) (n : Node) : Type 0 where
  pub below : All (NamesBelow k) n.args.items
  pub converts : HasReference (operator_of n.op) n.args.items

-- each node names only nodes before it
abbrev pub AreOrdered : List Node → Type 0
AreOrdered nodes = (k : ℕ) (n : Node) → slice_get nodes k ≡ Some n → IsNodeAt k n
