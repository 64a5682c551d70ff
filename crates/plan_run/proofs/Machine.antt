-- Operators on a stack of values, and expressions.
use Rattle.std.proofs.Common.{◌≡◌, ℕ, ◌+◌, ◌-◌, ◌<◌, ◌≤◌, true, List, [], ◌∷◌, ◌++◌, length, get_or, take, drop, Option, None, Some, sym, ◌∙◌, ap, arith}
use Rattle.std.specs.Prelude.{All, IfSome}
use Rattle.std.specs.Option.{option_map, option_and_then}
use Rattle.std.proofs.lemmas.Bool.{le-leb}
use Rattle.std.proofs.lemmas.List.{length-map, map-append, take-map, drop-map, drop_more}
use Rattle.std.proofs.lemmas.List.Elements.{All-take, All-push}
use Rattle.wasm_spec.specs.declared.operators.Operator.{Operator}
use Rattle.wasm_convert.specs.declared.operators.ConstOp.{ConstOp}
use Rattle.wasm_convert.specs.Operators.{operator_of}
use Rattle.wasm_convert.specs.Constants.{expression_of}
use Rattle.replay_spec.specs.Values as plain
use Rattle.replay_spec.specs.Values.{Action, acted, run, only_value}
use Rattle.replay_spec.specs.Elements.{value_or_null}
use Rattle.plan_run.specs.declared.value.Value.{Value}
use Rattle.plan_run.specs.declared.value.Node.{Node}
use Rattle.plan_run.specs.Values.{value_in, values_in, terms_of, NamesBelow}
use Rattle.plan_run.specs.Nodes.{Extends, MeansOption, Acts}
use Rattle.plan_run.proofs.Terms.{kept-values, all-names-more, longer}

-- ---- one operator

module _ (a : Action) (vs : List plain.Value) where
  abbrev taken-from : ℕ → Option (List plain.Value)
  taken-from n = option_map (λ v. take n vs ++ v ∷ []) (a.makes (drop n vs))

  acted-taken : (n : ℕ) → a.takes ≤ length vs → n ≡ length vs - a.takes → acted a vs ≡ taken-from n
  acted-taken n l is = grind (arith, le-leb)

module _ (a : Action) (nodes : List Node) (stack args : List Value) (takes rest : ℕ) (is : takes ≡ a.takes) where
  module _ (l : takes ≤ length stack) (at : rest ≡ length stack - takes) (top : args ≡ drop rest stack) where
    acts-on : acted a (values_in (terms_of nodes) stack)
        ≡ option_map (λ v. values_in (terms_of nodes) (take rest stack) ++ v ∷ []) (a.makes (values_in (terms_of nodes) args))
    acts-on = grind (arith, length-map, acted-taken, take-map, drop-map)

    -- the values are not what is needed
    pub acts-none : a.makes (values_in (terms_of nodes) args) ≡ None → acted a (values_in (terms_of nodes) stack) ≡ None
    acts-none none = acts-on ∙ ap (option_map (λ v. values_in (terms_of nodes) (take rest stack) ++ v ∷ [])) none

    -- or one value replaces them
    pub acts-some : (new : List Node) (between after : List Value) (v : Value) → Extends nodes new → All (NamesBelow (length nodes)) stack → between ≡ take rest stack
        → after ≡ between ++ v ∷ [] → MeansOption new (Some v) (a.makes (values_in (terms_of nodes) args)) → Acts a nodes new stack after true
    acts-some new between after v extends below cut pushed made =
        let front : List Value = take rest stack in
        let below_front : All (NamesBelow (length nodes)) front = All-take (NamesBelow (length nodes)) rest stack below in (
          rw (pushed, cut) (All-push (NamesBelow (length new)) front v (all-names-more (length nodes) (length new) front (longer extends) below_front) made.0),
          grind (arith, acts-on, kept-values extends front below_front, map-append (value_in (terms_of new)) front (v ∷ [])),
        )

-- ---- an expression

abbrev pub Step : Type 0
Step = Operator → List plain.Value → Option (List plain.Value)

module _ (step : Step) (ops : List ConstOp) (i : ℕ) (op d : ConstOp) (l : i < length ops) (is : op ≡ get_or ops i d) (stack : List plain.Value) where
  runs-on : run step (expression_of (drop i ops)) stack ≡ option_and_then (run step (expression_of (drop (i + 1) ops))) (step (operator_of op) stack)
  runs-on = ap (λ xs. run step (expression_of xs) stack) (drop_more ops i d l ∙ ap (λ o. o ∷ drop (i + 1) ops) (sym is))

  pub runs-more : (after : List plain.Value) → step (operator_of op) stack ≡ Some after
      → run step (expression_of (drop (i + 1) ops)) after ≡ run step (expression_of (drop i ops)) stack
  runs-more after e = sym (runs-on ∙ ap (option_and_then (run step (expression_of (drop (i + 1) ops)))) e)

  pub runs-none : step (operator_of op) stack ≡ None → run step (expression_of (drop i ops)) stack ≡ None
  runs-none e = runs-on ∙ ap (option_and_then (run step (expression_of (drop (i + 1) ops)))) e

-- an expression without a value is null
pub no-value : (step : Step) (e : List Operator) → run step e [] ≡ None → value_or_null (plain.evaluated step e) ≡ plain.Ref plain.Null
no-value step e none = ap (λ o. value_or_null (option_and_then only_value o)) none

pub the-value : (step : Step) (e : List Operator) (stack : List plain.Value) → run step e [] ≡ Some stack → value_or_null (plain.evaluated step e) ≡ value_or_null (only_value stack)
the-value step e stack some = ap (λ o. value_or_null (option_and_then only_value o)) some

-- what may be a value, by the values that it represents
pub option-means : (nodes : List Node) (o : Option Value) (meant : Option plain.Value) → option_map (value_in (terms_of nodes)) o ≡ meant → IfSome o (NamesBelow (length nodes))
    → MeansOption nodes o meant
option-means nodes None meant is below = sym is
option-means nodes (Some v) meant is below = (below, sym is)
