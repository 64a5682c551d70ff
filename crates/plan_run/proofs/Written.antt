-- Values of globals that are written.
use Rattle.std.proofs.Common.{◌≡◌, ℕ, ◌+◌, ◌-◌, ◌<◌, ◌≤◌, List, ◌++◌, length, map, get_or, set, take, drop, replicate, arith}
use Rattle.std.specs.Prelude.{All}
use Rattle.std.proofs.lemmas.List.{map-set, map-append, drop_more, take_all}
use Rattle.wasm_index.specs.declared.index.Index.{Index}
use Rattle.wasm_index.specs.declared.spaces.DefinedGlobalSpace.{DefinedGlobalSpace}
use Rattle.wasm_index.specs.Index.{number_of}
use Rattle.wasm_convert.specs.declared.operators.ConstOp.{ConstOp}
use Rattle.wasm_convert.specs.declared.values.GlobalConstValue.{GlobalConstValue}
use Rattle.wasm_convert.specs.Constants.{expression_of, plain_value_of}
use Rattle.replay_spec.specs.Elements.{cell_of}
use Rattle.replay_spec.specs.Globals.{simple_written, kept_written}
use Rattle.replay_spec.specs.Values as plain
use Rattle.replay_spec.specs.Values.{Term}
use Rattle.init_plan.specs.Held.{simple_global_of, kept_global_of}
use Rattle.plan_run.specs.declared.value.Value.{Value}
use Rattle.plan_run.specs.declared.value.Node.{Node}
use Rattle.plan_run.specs.Nodes.{Extends, Means}
use Rattle.plan_run.specs.Values.{value_in, values_in, terms_of, imported_value, NamesBelow}
use Rattle.plan_run.proofs.Lists.{map-replicate}
use Rattle.plan_run.proofs.Terms.{kept-values}

pub simple-step : (terms : List Term) (imports : ℕ) (values : List (Index DefinedGlobalSpace × GlobalConstValue)) (i : ℕ) (d : Index DefinedGlobalSpace × GlobalConstValue) (old : List Value)
    (v : Value) → i < length values → value_in terms v ≡ plain_value_of (get_or values i d).1
    → simple_written imports (values_in terms (set old (imports + number_of (get_or values i d).0) v)) (map simple_global_of (drop (i + 1) values))
    ≡ simple_written imports (values_in terms old) (map simple_global_of (drop i values))
simple-step terms imports values i d old v l means = grind (arith, map-set, drop_more)

pub kept-step : (fields : ℕ → ℕ) (imports : ℕ) (values : List (Index DefinedGlobalSpace × List ConstOp)) (i : ℕ) (g d : Index DefinedGlobalSpace × List ConstOp) (old : List Value)
    (v : Value) (nodes new : List Node) → i < length values → g ≡ get_or values i d → Extends nodes new → All (NamesBelow (length nodes)) old
    → Means new v (cell_of (values_in (terms_of nodes) old) fields (expression_of g.1))
    → kept_written fields imports (values_in (terms_of new) (set old (imports + number_of g.0) v)) (map kept_global_of (drop (i + 1) values))
    ≡ kept_written fields imports (values_in (terms_of nodes) old) (map kept_global_of (drop i values))
kept-step fields imports values i g d old v nodes new l is extends below means = grind (arith, kept-values extends old below, drop_more values i d l, map-set)

-- the imported values, and null behind them
pub first-globals : (terms : List Term) (imported all : List Value) (n count : ℕ) (null : Value) → value_in terms null ≡ plain.Ref plain.Null → length imported ≤ n
    → n - length imported ≡ count → all ≡ take n imported ++ replicate (n - length imported) null
    → values_in terms imported ≡ map imported_value imported
    → values_in terms all ≡ map imported_value imported ++ replicate count (plain.Ref plain.Null)
first-globals terms imported all n count null is few many are same = grind (arith, take_all, map-append, map-replicate)
