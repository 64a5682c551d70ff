-- Nodes that are appended.
use Rattle.std.specs.Prelude.{◌≡◌, List, ◌++◌, length, All, Bool, true, false, Option, None, Some}
use Rattle.replay_spec.specs.Values as plain
use Rattle.replay_spec.specs.Values.{Action, acted}
use Rattle.plan_run.specs.declared.value.Value.{Value}
use Rattle.plan_run.specs.declared.value.Node.{Node}
use Rattle.plan_run.specs.Values.{value_in, values_in, terms_of, NamesBelow}

-- nodes that begin with others
pub record Extends (old new : List Node) : Type 0 where
  pub more : List Node
  pub is : new ≡ old ++ more

-- a value represents a plain one, over these nodes
pub record Means (nodes : List Node) (v : Value) (meant : plain.Value) : Type 0 where
  pub below : NamesBelow (length nodes) v
  pub is : value_in (terms_of nodes) v ≡ meant

-- and so do values
pub record AllMean (nodes : List Node) (values : List Value) (meant : List plain.Value) : Type 0 where
  pub below : All (NamesBelow (length nodes)) values
  pub are : values_in (terms_of nodes) values ≡ meant

-- there is a value where there is a plain one, and it represents that
abbrev pub MeansOption : List Node → Option Value → Option plain.Value → Type 0
MeansOption nodes None meant = meant ≡ None
MeansOption nodes (Some v) meant = NamesBelow (length nodes) v × (meant ≡ Some (value_in (terms_of nodes) v))

-- an operator acts on a stack, or does not find the values that it needs
abbrev pub Acts : Action → List Node → List Node → List Value → List Value → Bool → Type 0
Acts a nodes grown stack after true = All (NamesBelow (length grown)) after × (acted a (values_in (terms_of nodes) stack) ≡ Some (values_in (terms_of grown) after))
Acts a nodes grown stack after false = acted a (values_in (terms_of nodes) stack) ≡ None
